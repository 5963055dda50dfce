-- Columns of water, the ghosts beyond a side, and the faces where two columns meet.
use Rattle.std.specs.Prelude.{ℕ, ℤ, pos, ◌+ℤ◌, ◌-ℤ◌, neg_ℤ}
use Rattle.rules.specs.Side.{face_pace}
use Rattle.book.specs.declared.cell.Cell.{Cell}
use Rattle.book.specs.declared.side.Hand.{Hand}
use Rattle.book.specs.declared.side.Hand.TheVariants.{West, East, South, North}
use Rattle.book.specs.declared.side.Side.{Side}
use Rattle.book.specs.declared.side.Side.TheVariants.{Wall, Open, Held, Fed}
use Rattle.book.specs.Numbers.{positive, greater, velocity, where_wet}

-- ---- columns

-- the water over a bed, with its velocity across a face and along it
pub record Column : Type 0 where
  pub bed : ℤ
  pub depth : ℕ
  pub normal : ℤ
  pub along : ℤ

-- a cell as a face to the given hand sees it
abbrev pub column : Hand → Cell → Column
column West c = record { bed = c.bed; depth = c.depth; normal = velocity c.east c.depth; along = velocity c.north c.depth }
column East c = record { bed = c.bed; depth = c.depth; normal = velocity c.east c.depth; along = velocity c.north c.depth }
column South c = record { bed = c.bed; depth = c.depth; normal = velocity c.north c.depth; along = velocity c.east c.depth }
column North c = record { bed = c.bed; depth = c.depth; normal = velocity c.north c.depth; along = velocity c.east c.depth }

-- a speed into the sheet, from beyond the given hand
abbrev pub inward : Hand → ℕ → ℤ
inward West v = pos v
inward East v = neg_ℤ (pos v)
inward South v = pos v
inward North v = neg_ℤ (pos v)

-- the depth that a level gives over a bed
abbrev pub held_depth : ℤ → ℤ → ℕ
held_depth level bed = positive (level -ℤ bed)

-- the ghost cell beyond a side, for the inner column k
abbrev pub ghost : Side → Hand → Column → Column
ghost Wall hand k = record { bed = k.bed; depth = k.depth; normal = neg_ℤ k.normal; along = k.along }
ghost Open hand k = k
ghost (Held level) hand k = record { bed = k.bed; depth = held_depth level k.bed; normal = k.normal; along = k.along }
ghost (Fed depth speed) hand k = record { bed = k.bed; depth = depth; normal = inward hand speed; along = pos 0 }

-- ---- faces

-- one side of a face: the water above the higher of the two beds
pub record FaceSide : Type 0 where
  pub depth : ℕ
  pub normal : ℤ
  pub along : ℤ

-- the left of a face is its west or south
pub record Face : Type 0 where
  pub left : FaceSide
  pub right : FaceSide

-- the water of a column that stands above the bed b
abbrev pub above : ℤ → Column → FaceSide
above b k =
    let d : ℕ = positive ((pos k.depth +ℤ k.bed) -ℤ b) in
    record { depth = d; normal = where_wet d k.normal; along = where_wet d k.along }

-- two columns meet at the higher bed
abbrev pub meet : Column → Column → Face
meet l r =
    let b : ℤ = greater l.bed r.bed in
    record { left = above b l; right = above b r }

-- the face to the given hand between a cell's own column and the one beyond
abbrev pub face_of : Hand → Column → Column → Face
face_of West own far = meet far own
face_of East own far = meet own far
face_of South own far = meet far own
face_of North own far = meet own far

-- the depth at that face on the cell's own side
abbrev pub own_depth : Hand → Face → ℕ
own_depth West f = f.right.depth
own_depth East f = f.left.depth
own_depth South f = f.right.depth
own_depth North f = f.left.depth

-- m: the greater pace of the two sides
abbrev pub pace : Face → ℕ
pace f = face_pace f.left.depth f.left.normal f.right.depth f.right.normal
