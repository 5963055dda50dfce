-- Sums and tests over the numbers below n, over the places of a sheet and over the four hands; the numbers below n mirrored.
use Rattle.std.proofs.Common.{◌≡◌, ℕ, zero, suc, ◌+◌, ◌-◌, ◌*◌, ◌<◌, ◌≤◌, Bool, false, ◌||◌, sym, refl, ap, ◌∙◌, subst, ap₂, ⊎_elim, add_assoc, add_comm, zero-add, arith}
use Rattle.std.proofs.Math.Bool.{or_assoc, or_comm}
use Rattle.std.proofs.lemmas.Bool.{lt-ltb, cases_lt, or_parts}
use Rattle.book.specs.declared.side.Hand.{Hand}
use Rattle.book.specs.declared.side.Hand.TheVariants.{West}
use Rattle.book.specs.declared.turn.Turn.{Turn}
use Rattle.book.specs.declared.turn.Turn.TheVariants.{EastWest, SouthNorth, RowsColumns}
use Rattle.book.specs.Sheets.{Table, Place, sum_below, some_below, some_place, some_hand}
use Rattle.book.specs.Turns.{mirrored, turned_rows, turned_columns, turned_place}

-- ---- mirrored numbers

pub mirrored_in : (n k : ℕ) → k < n → mirrored n k ≡ n - 1 - k
mirrored_in n k h = rw lt-ltb

pub mirrored_below : (n k : ℕ) → k < n → mirrored n k < n
mirrored_below n k h = omega (arith, mirrored_in n k h)

pub mirrored_twice : (n k : ℕ) → k < n → mirrored n (mirrored n k) ≡ k
mirrored_twice n k h = mirrored_in n (mirrored n k) (mirrored_below n k h) ∙ omega (arith, mirrored_in n k h)

-- the place of a sheet that comes to row r and column c of the turned sheet
abbrev pub came_from : Turn → ℕ → ℕ → ℕ → ℕ → Place
came_from τ rows columns r c = turned_place τ (turned_rows τ rows columns) (turned_columns τ rows columns) (record { row = r; column = c })

-- ---- folds

module _ {A : Type 0} (e : A) (op : A → A → A) (B : ℕ → (ℕ → A) → A)
    (none : (f : ℕ → A) → B zero f ≡ e) (more : (n : ℕ) (f : ℕ → A) → B (suc n) f ≡ op (B n f) (f n))
    (left : (x : A) → op e x ≡ x) (assoc : (x y z : A) → op (op x y) z ≡ op x (op y z)) (comm : (x y : A) → op x y ≡ op y x) where
  below_same : (n : ℕ) (f g : ℕ → A) → ((k : ℕ) → k < n → f k ≡ g k) → B n f ≡ B n g
  below_same zero f g h = cc (none f, none g)
  below_same (suc n) f g h = cc (more n f, below_same n f g (λ k l. h k (omega arith)), h n (omega arith), more n g)

  -- the first taken out at the front
  below_front : (n : ℕ) (f : ℕ → A) → B (suc n) f ≡ op (f 0) (B n (λ k. f (suc k)))
  below_front zero f = cc (more 0 f, none f, comm e (f 0), none (λ k. f (suc k)))
  below_front (suc n) f = cc (more (suc n) f, below_front n f, assoc (f 0) (B n (λ k. f (suc k))) (f (suc n)), more n (λ k. f (suc k)))

  below_mirrored : (n : ℕ) (f : ℕ → A) → B n (λ k. f (mirrored n k)) ≡ B n f
  below_mirrored zero f = none (λ k. f (mirrored zero k)) ∙ sym (none f)
  below_mirrored (suc n) f =
      below_front n (λ k. f (mirrored (suc n) k))
      ∙ (ap₂ op
      (ap f (mirrored_in (suc n) 0 (omega arith) ∙ omega arith))
      (below_same n _ _ (λ k l. ap f (mirrored_in (suc n) (suc k) (omega arith) ∙ omega (arith, mirrored_in n k l)))
      ∙ below_mirrored n f)
      ∙ (comm (f n) (B n f) ∙ sym (more n f)))

  below_op : (n : ℕ) (f g : ℕ → A) → B n (λ k. op (f k) (g k)) ≡ op (B n f) (B n g)
  below_op zero f g = cc (none (λ k. op (f k) (g k)), left e, none f, none g)
  below_op (suc n) f g = cc (more n (λ k. op (f k) (g k)), below_op n f g, shuffle (B n f) (B n g) (f n) (g n), more n f, more n g)
    where
      shuffle : (a b c d : A) → op (op a b) (op c d) ≡ op (op a c) (op b d)
      shuffle a b c d = cc (assoc a b (op c d), assoc b c d, comm b c, assoc c b d, assoc a c (op b d))

  below_nothing : (n : ℕ) → B n (λ k. e) ≡ e
  below_nothing zero = none (λ k. e)
  below_nothing (suc n) = cc (more n (λ k. e), below_nothing n, left e)

  below_swapped : (m n : ℕ) (f : ℕ → ℕ → A) → B m (λ r. B n (λ c. f r c)) ≡ B n (λ c. B m (λ r. f r c))
  below_swapped zero n f = none (λ r. B n (λ c. f r c)) ∙ (sym (below_nothing n) ∙ below_same n _ _ (λ c l. sym (none (λ r. f r c))))
  below_swapped (suc m) n f =
      more m (λ r. B n (λ c. f r c))
      ∙ (ap (λ x. op x (B n (λ c. f m c))) (below_swapped m n f)
      ∙ (sym (below_op n (λ c. B m (λ r. f r c)) (f m))
      ∙ below_same n _ _ (λ c l. sym (more m (λ r. f r c)))))

  -- over the places of a turned sheet
  places_turned : (τ : Turn) (rows columns : ℕ) (f g : ℕ → ℕ → A) →
      ((r c : ℕ) → r < turned_rows τ rows columns → c < turned_columns τ rows columns →
      f r c ≡ g (came_from τ rows columns r c).row (came_from τ rows columns r c).column) →
      B (turned_rows τ rows columns) (λ r. B (turned_columns τ rows columns) (λ c. f r c)) ≡ B rows (λ r. B columns (λ c. g r c))
  places_turned EastWest rows columns f g h = below_same rows _ _ (λ r l. below_same columns _ _ (λ c m. h r c l m) ∙ below_mirrored columns (g r))
  places_turned SouthNorth rows columns f g h = below_same rows _ _ (λ r l. below_same columns _ _ (λ c m. h r c l m)) ∙ below_mirrored rows (λ r. B columns (λ c. g r c))
  places_turned RowsColumns rows columns f g h = below_same columns _ _ (λ r l. below_same rows _ _ (λ c m. h r c l m)) ∙ below_swapped columns rows (λ r c. g c r)

-- ---- sums

pub sum_same : (n : ℕ) (f g : ℕ → ℕ) → ((k : ℕ) → k < n → f k ≡ g k) → sum_below n f ≡ sum_below n g
sum_same = below_same 0 ◌+◌ sum_below (λ f. refl) (λ n f. refl) zero-add add_assoc add_comm

pub sum_mirrored : (n : ℕ) (f : ℕ → ℕ) → sum_below n (λ k. f (mirrored n k)) ≡ sum_below n f
sum_mirrored = below_mirrored 0 ◌+◌ sum_below (λ f. refl) (λ n f. refl) zero-add add_assoc add_comm

sum_add : (n : ℕ) (f g : ℕ → ℕ) → sum_below n (λ k. f k + g k) ≡ sum_below n f + sum_below n g
sum_add = below_op 0 ◌+◌ sum_below (λ f. refl) (λ n f. refl) zero-add add_assoc add_comm

sum_swap : (m n : ℕ) (f : ℕ → ℕ → ℕ) → sum_below m (λ r. sum_below n (λ c. f r c)) ≡ sum_below n (λ c. sum_below m (λ r. f r c))
sum_swap = below_swapped 0 ◌+◌ sum_below (λ f. refl) (λ n f. refl) zero-add add_assoc add_comm

pub sum_none : (n : ℕ) (f : ℕ → ℕ) → ((k : ℕ) → k < n → f k ≡ 0) → sum_below n f ≡ 0
sum_none n f h = sum_same n f (λ k. 0) h ∙ below_nothing 0 ◌+◌ sum_below (λ f. refl) (λ n f. refl) zero-add add_assoc add_comm n

sum_even : (n a : ℕ) → sum_below n (λ k. a) ≡ n * a
sum_even zero a = omega arith
sum_even (suc n) a = omega (arith, sum_even n a)

pub sum_turned : (τ : Turn) (rows columns : ℕ) (f g : ℕ → ℕ → ℕ) →
    ((r c : ℕ) → r < turned_rows τ rows columns → c < turned_columns τ rows columns →
    f r c ≡ g (came_from τ rows columns r c).row (came_from τ rows columns r c).column) →
    sum_below (turned_rows τ rows columns) (λ r. sum_below (turned_columns τ rows columns) (λ c. f r c)) ≡ sum_below rows (λ r. sum_below columns (λ c. g r c))
sum_turned = places_turned 0 ◌+◌ sum_below (λ f. refl) (λ n f. refl) zero-add add_assoc add_comm

-- over all places
pub total_same : (rows columns : ℕ) (f g : ℕ → ℕ → ℕ) → ((r c : ℕ) → r < rows → c < columns → f r c ≡ g r c) → sum_below rows (λ r. sum_below columns (λ c. f r c)) ≡ sum_below rows (λ r. sum_below columns (λ c. g r c))
total_same rows columns f g h = sum_same rows _ _ (λ r p. sum_same columns _ _ (λ c q. h r c p q))

pub total_add : (rows columns : ℕ) (f g : ℕ → ℕ → ℕ) → sum_below rows (λ r. sum_below columns (λ c. f r c + g r c)) ≡ sum_below rows (λ r. sum_below columns (λ c. f r c)) + sum_below rows (λ r. sum_below columns (λ c. g r c))
total_add rows columns f g = sum_same rows _ _ (λ r p. sum_add columns (f r) (g r)) ∙ sum_add rows (λ r. sum_below columns (λ c. f r c)) (λ r. sum_below columns (λ c. g r c))

pub total_even : (rows columns n : ℕ) → sum_below rows (λ r. sum_below columns (λ c. n)) ≡ rows * (columns * n)
total_even rows columns n = sum_same rows _ _ (λ r p. sum_even columns n) ∙ sum_even rows (columns * n)

-- ---- what enters and leaves the cells of a sheet over their faces: within the sheet it cancels

-- along a row of n + 1 cells
telescope : (n : ℕ) (ai ao li lo : ℕ → ℕ)
    → ((k : ℕ) → k < n → ai (suc k) ≡ lo k) → ((k : ℕ) → k < n → li (suc k) ≡ ao k)
    → sum_below (suc n) (λ k. ai k + ao k) + (li 0 + lo n) ≡ sum_below (suc n) (λ k. li k + lo k) + (ai 0 + ao n)
telescope zero ai ao li lo h g = omega arith
telescope (suc n) ai ao li lo h g =
    omega (arith, telescope n ai ao li lo (λ k b. h k (omega arith)) (λ k b. g k (omega arith)), h n (omega arith), g n (omega arith))

row_cancels : (n : ℕ) → 1 ≤ n → (ai ao li lo : ℕ → ℕ)
    → ((k : ℕ) → suc k < n → ai (suc k) ≡ lo k) → ((k : ℕ) → suc k < n → li (suc k) ≡ ao k)
    → sum_below n (λ k. ai k + ao k) + (li 0 + lo (n - 1)) ≡ sum_below n (λ k. li k + lo k) + (ai 0 + ao (n - 1))
row_cancels zero p ai ao li lo h g = absurd (omega arith)
row_cancels (suc n) p ai ao li lo h g =
    let e : suc n - 1 ≡ n = omega arith in
    rw e (telescope n ai ao li lo (λ k b. h k (omega arith)) (λ k b. g k (omega arith)))

-- in each of m rows: what is left is at the two ends
rows_cancel : (m n : ℕ) → 1 ≤ n → (ai ao li lo : ℕ → ℕ → ℕ)
    → ((r c : ℕ) → r < m → suc c < n → ai r (suc c) ≡ lo r c) → ((r c : ℕ) → r < m → suc c < n → li r (suc c) ≡ ao r c)
    → sum_below m (λ r. sum_below n (λ c. ai r c + ao r c)) + (sum_below m (λ r. li r 0) + sum_below m (λ r. lo r (n - 1)))
    ≡ sum_below m (λ r. sum_below n (λ c. li r c + lo r c)) + (sum_below m (λ r. ai r 0) + sum_below m (λ r. ao r (n - 1)))
rows_cancel m n p ai ao li lo h g =
    let left = sum_add m (λ r. sum_below n (λ c. ai r c + ao r c)) (λ r. li r 0 + lo r (n - 1)) in
    let left_ends = sum_add m (λ r. li r 0) (λ r. lo r (n - 1)) in
    let right = sum_add m (λ r. sum_below n (λ c. li r c + lo r c)) (λ r. ai r 0 + ao r (n - 1)) in
    let right_ends = sum_add m (λ r. ai r 0) (λ r. ao r (n - 1)) in
    let each = sum_same m (λ r. sum_below n (λ c. ai r c + ao r c) + (li r 0 + lo r (n - 1))) (λ r. sum_below n (λ c. li r c + lo r c) + (ai r 0 + ao r (n - 1)))
    (λ r b. row_cancels n p (ai r) (ao r) (li r) (lo r) (λ c q. h r c b q) (λ c q. g r c b q)) in
    omega arith

-- what comes in (i) and goes out (o) to the west, east, south and north of each cell
module _ (m n : ℕ) (rows_some : 1 ≤ m) (columns_some : 1 ≤ n) (old new iw ie is ino ow oe os on : ℕ → ℕ → ℕ)
    (each : (r c : ℕ) → r < m → c < n → new r c + (ow r c + oe r c + os r c + on r c) ≡ old r c + (iw r c + ie r c + is r c + ino r c))
    (we : (r c : ℕ) → r < m → suc c < n → iw r (suc c) ≡ oe r c) (ew : (r c : ℕ) → r < m → suc c < n → ow r (suc c) ≡ ie r c)
    (sn : (c r : ℕ) → c < n → suc r < m → is (suc r) c ≡ on r c) (ns : (c r : ℕ) → c < n → suc r < m → os (suc r) c ≡ ino r c) where
  four_ways : (a b c d : ℕ → ℕ → ℕ) → sum_below m (λ r. sum_below n (λ x. a r x + b r x + c r x + d r x)) ≡ sum_below m (λ r. sum_below n (λ x. a r x + b r x)) + sum_below n (λ x. sum_below m (λ r. c r x + d r x))
  four_ways a b c d =
      total_same m n (λ r x. a r x + b r x + c r x + d r x) (λ r x. (a r x + b r x) + (c r x + d r x)) (λ r x p q. omega arith)
      ∙ total_add m n (λ r x. a r x + b r x) (λ r x. c r x + d r x)
      ∙ ap (λ k. sum_below m (λ r. sum_below n (λ x. a r x + b r x)) + k) (sum_swap m n (λ r x. c r x + d r x))

  pub sheet_balance :
      sum_below m (λ r. sum_below n (λ c. new r c))
      + (sum_below m (λ r. ow r 0) + sum_below m (λ r. oe r (n - 1)) + sum_below n (λ c. os 0 c) + sum_below n (λ c. on (m - 1) c))
      ≡ sum_below m (λ r. sum_below n (λ c. old r c))
      + (sum_below m (λ r. iw r 0) + sum_below m (λ r. ie r (n - 1)) + sum_below n (λ c. is 0 c) + sum_below n (λ c. ino (m - 1) c))
  sheet_balance =
      let all = total_same m n (λ r c. new r c + (ow r c + oe r c + os r c + on r c)) (λ r c. old r c + (iw r c + ie r c + is r c + ino r c)) each in
      let news = total_add m n new (λ r c. ow r c + oe r c + os r c + on r c) in
      let olds = total_add m n old (λ r c. iw r c + ie r c + is r c + ino r c) in
      let gone = four_ways ow oe os on in
      let come = four_ways iw ie is ino in
      let rows = rows_cancel m n columns_some iw ie ow oe we ew in
      let columns = rows_cancel n m rows_some (λ c r. is r c) (λ c r. ino r c) (λ c r. os r c) (λ c r. on r c) sn ns in
      omega arith

-- ---- tests

pub some_same : (n : ℕ) (f g : ℕ → Bool) → ((k : ℕ) → k < n → f k ≡ g k) → some_below n f ≡ some_below n g
some_same = below_same false ◌||◌ some_below (λ f. refl) (λ n f. refl) (λ x. refl) or_assoc or_comm

pub some_mirrored : (n : ℕ) (f : ℕ → Bool) → some_below n (λ k. f (mirrored n k)) ≡ some_below n f
some_mirrored = below_mirrored false ◌||◌ some_below (λ f. refl) (λ n f. refl) (λ x. refl) or_assoc or_comm

pub some_turned : (τ : Turn) (rows columns : ℕ) (f g : ℕ → ℕ → Bool) →
    ((r c : ℕ) → r < turned_rows τ rows columns → c < turned_columns τ rows columns →
    f r c ≡ g (came_from τ rows columns r c).row (came_from τ rows columns r c).column) →
    some_below (turned_rows τ rows columns) (λ r. some_below (turned_columns τ rows columns) (λ c. f r c)) ≡ some_below rows (λ r. some_below columns (λ c. g r c))
some_turned = places_turned false ◌||◌ some_below (λ f. refl) (λ n f. refl) (λ x. refl) or_assoc or_comm

pub none_below : (n : ℕ) (p : ℕ → Bool) → some_below n p ≡ false → (k : ℕ) → k < n → p k ≡ false
none_below zero p e k h = absurd (omega arith)
none_below (suc n) p e k h =
    let parts = or_parts (some_below n p) (p n) e in
    ⊎_elim (λ l. none_below n p parts.0 k l) (λ l. subst (λ j. p j ≡ false) (omega arith) parts.1) (cases_lt k n)

pub no_place : (t : Table) (p : ℕ → ℕ → Bool) → some_place t p ≡ false → (r c : ℕ) → r < t.rows → c < t.columns → p r c ≡ false
no_place t p e r c h g = none_below t.columns (λ x. p r x) (none_below t.rows (λ y. some_below t.columns (λ x. p y x)) e r h) c g

pub no_hand : (p : Hand → Bool) → some_hand p ≡ false → (hand : Hand) → p hand ≡ false
no_hand p e West = grind (arith, or_parts)
no_hand p e hand = grind (arith, or_parts)
