-- The plain numbers of a question, and its first fault.
use Rattle.std.specs.Prelude.{◌≡◌, cond, ◌&&◌, ℤ, pos, Ok, Err, Result, Some, None, Option, ◌==◌, nat_lt, unsigned_abs}
use Rattle.rules.specs.declared.side.FaceSide.{FaceSide}
use Rattle.rules.specs.declared.friction.stream.Stream.{Stream}
use Rattle.face.specs.declared.quantity.Side.{Side}
use Rattle.face.specs.declared.quantity.Side.TheVariants.{Left, Right}
use Rattle.face.specs.declared.quantity.Quantity.{Quantity}
use Rattle.face.specs.declared.quantity.Quantity.TheVariants.{Depth, FluxNumber, SideDepth, SideVelocity, Coefficient, Strength, Flow, Speed, NewDepth, Rate}
use Rattle.face.specs.declared.quantity.OutOfRange.{OutOfRange}
use Rattle.face.specs.declared.quantity.OutOfRange.TheVariants.{Beyond, DryMoving}
use Rattle.face.specs.declared.question.AskedSide.{AskedSide}
use Rattle.face.specs.declared.question.AskedStream.{AskedStream}
use Rattle.face.specs.declared.question.Asked.{Asked}
use Rattle.face.specs.declared.question.Asked.TheVariants.{Root as AskRoot, Flux as AskFlux, Bare as AskBare, Weed as AskWeed}
use Rattle.face.specs.declared.question.FluxName.{FluxName}
use Rattle.face.specs.declared.question.FluxName.TheVariants.{Rusanov, Hll}
use Rattle.face.specs.declared.question.Question.{Question}
use Rattle.face.specs.declared.question.Question.TheVariants.{Root, Flux, Bare, Weed}
use Rattle.face.specs.Quantities.{within}

abbrev pub plain_flux : FluxName → ℤ
plain_flux Rusanov = pos 1
plain_flux Hll = pos 2

abbrev pub plain_side : FaceSide → AskedSide
plain_side s = record { depth = pos s.depth; velocity = s.normal }

abbrev pub plain_stream : Stream → AskedStream
plain_stream s = record { flow = s.flow; speed = pos s.speed; depth = pos s.depth; rate = pos s.rate }

abbrev pub plain : Question → Asked
plain (Root depth) = AskRoot (pos depth)
plain (Flux name face) = AskFlux (plain_flux name) (plain_side face.left) (plain_side face.right)
plain (Bare bed s) = AskBare (pos bed.coefficient) (plain_stream s)
plain (Weed weed s) = AskWeed (pos weed.strength) (pos weed.over.coefficient) (plain_stream s)

-- ---- the first fault of a question, in the order in which its numbers stand

-- that this number is out of its range, else what comes next
abbrev pub beyond : Quantity → ℤ → Option OutOfRange → Option OutOfRange
beyond quantity value next = cond (within quantity value) next (Some (Beyond quantity value))

-- that water moves on a dry side
abbrev pub dry_moving : Quantity → ℤ → ℤ → Option OutOfRange
dry_moving quantity depth velocity = cond (unsigned_abs depth == 0 && nat_lt 0 (unsigned_abs velocity)) (Some (DryMoving quantity velocity)) None

abbrev pub flux_fault : ℤ → Option OutOfRange
flux_fault number = beyond FluxNumber number None

unfoldable pub side_fault : Side → AskedSide → Option OutOfRange
side_fault side s = beyond (SideDepth side) s.depth (beyond (SideVelocity side) s.velocity (dry_moving (SideVelocity side) s.depth s.velocity))

unfoldable pub stream_fault : AskedStream → Option OutOfRange
stream_fault s = beyond Flow s.flow (beyond Speed s.speed (beyond NewDepth s.depth (beyond Rate s.rate None)))

abbrev pub bed_fault : ℤ → Option OutOfRange
bed_fault coefficient = beyond Coefficient coefficient None

abbrev pub weed_fault : ℤ → ℤ → Option OutOfRange
weed_fault strength coefficient = beyond Strength strength (bed_fault coefficient)

-- the first of two
abbrev pub or_else : Option OutOfRange → Option OutOfRange → Option OutOfRange
or_else (Some out) next = Some out
or_else None next = next

abbrev pub fault_of : Asked → Option OutOfRange
fault_of (AskRoot depth) = beyond Depth depth None
fault_of (AskFlux number left right) = or_else (flux_fault number) (or_else (side_fault Left left) (side_fault Right right))
fault_of (AskBare c s) = or_else (bed_fault c) (stream_fault s)
fault_of (AskWeed g c s) = or_else (weed_fault g c) (stream_fault s)

-- no fault, and what is made of the numbers; or else the fault
abbrev pub FirstFault : {A : Type 0} → Option OutOfRange → (A → Type 0) → Result A OutOfRange → Type 0
FirstFault fault Made (Ok x) = Made x × (fault ≡ None)
FirstFault fault Made (Err out) = fault ≡ Some out
