-- Histories that grow by one entry, and cells.
use Rattle.std.proofs.Common.{◌≡◌, ℕ, ◌+◌, ◌^◌, ◌<◌, ◌≤◌, ◌≢◌, ◌==◌, zero, suc, Bool, true, false, refl, sym, ap, ◌∙◌, arith, cond, subst, filter, List, [], ◌∷◌, ◌++◌, length, get_or, take, replicate, add-one, take-suc}
use Rattle.map_table.specs.declared.kinds.Kind.{Kind}
use Rattle.map_table.specs.declared.kinds.Kind.TheVariants as kind
use Rattle.lane_core.specs.declared.history.Act.TheVariants as act
use Rattle.lane_core.specs.Areas.{put, kind_in, block_in, has_bytes, normal}
use Rattle.lane_core.proofs.Put.{never, put_elim}
use Rattle.lane_core.specs.History.{Cells, Cell, Act, Entry, left_of, changes_nothing, SomeMayGo, IsLegal, IsRight, after, end_of, of_lane, listed, cell_by, cell_in}
use Rattle.lane_core.proofs.Entries.{kind_in-normal, block_in-normal}
use Rattle.arena_open.specs.declared.cell.Cell.TheVariants as cell

pub end_of-grown : (c : ℕ → Cell) (es : List Entry) (e : Entry) → end_of c (es ++ e ∷ []) ≡ after (end_of c es) e
unfolding end_of
end_of-grown c [] e = refl
end_of-grown c (x ∷ es) e = end_of-grown (after c x) es e

same_cell : (c : Cells) (s i : ℕ) → put c s (c s) i ≡ c i
same_cell c s i = put_elim (λ i x. x ≡ c i) c s (c s) refl (λ i ne. refl) i

stays : (a : Act) (found : Cell) → changes_nothing a ≡ true → left_of a found ≡ found
stays (act.Read seen) found h = refl
stays (act.Write words) found h = never h

pub after_same : (c : Cells) (e : Entry) → changes_nothing e.act ≡ true → after c e ≡ c
after_same c e h = λ i s. (ap (λ x. put c e.sector x s) (stays e.act (c e.sector) h) ∙ same_cell c e.sector s) i

pub some_may_go : SomeMayGo
unfolding IsLegal end_of
some_may_go c keeps [] idle legal = (tt, refl)
some_may_go c keeps (e ∷ es) idle legal = by (keeps e) (idle e) (some_may_go (after c e) keeps es idle legal.1)
  where
    kept : (b : Bool) → List Entry
    kept b = cond b (e ∷ filter keeps es) (filter keeps es)

    by : (b : Bool) → (b ≡ false → changes_nothing e.act ≡ true) → IsLegal (after c e) (filter keeps es) × (end_of (after c e) (filter keeps es) ≡ end_of (after c e) es) → IsLegal c (kept b) × (end_of c (kept b) ≡ end_of c (e ∷ es))
    by true f h = ((legal.0, h.0), h.1)
    by false f h =
        let p = after_same c e (f refl) in
        (subst (λ (c : Cells). IsLegal c (filter keeps es)) p h.0, ap (λ (c : Cells). end_of c (filter keeps es)) (sym p) ∙ h.1)

pub legal_grown : (c : ℕ → Cell) (es : List Entry) (e : Entry) → IsLegal c es → IsRight e.act (end_of c es e.sector) → IsLegal c (es ++ e ∷ [])
unfolding end_of IsLegal
legal_grown c [] e h r = (r, tt)
legal_grown c (x ∷ es) e h r = (h.0, legal_grown (after c x) es e h.1 r)

pub filter-grown : (f : Entry → Bool) (es : List Entry) (e : Entry) → filter f (es ++ e ∷ []) ≡ filter f es ++ filter f (e ∷ [])
filter-grown f [] e = refl
filter-grown f (x ∷ es) e = elim (f x) as (λ b. cond b (x ∷ filter f (es ++ e ∷ [])) (filter f (es ++ e ∷ [])) ≡ cond b (x ∷ filter f es) (filter f es) ++ filter f (e ∷ [])) [
  | true ↦ ap (λ r. x ∷ r) (filter-grown f es e)
  | false ↦ filter-grown f es e
]

pub of_lane-grown : (l : ℕ) (es : List Entry) (e : Entry) → of_lane l (es ++ e ∷ []) ≡ of_lane l es ++ of_lane l (e ∷ [])
unfolding of_lane
of_lane-grown l es e = filter-grown (λ x. x.lane == l) es e

pub of_lane-one : (l : ℕ) (e : Entry) → e.lane ≡ l → of_lane l (e ∷ []) ≡ e ∷ []
unfolding of_lane
of_lane-one l e q = grind arith

pub of_lane-none : (l : ℕ) (e : Entry) → e.lane ≢ l → of_lane l (e ∷ []) ≡ []
unfolding of_lane
of_lane-none l e ne = grind arith

pub append_none : {A : Type 0} (xs : List A) → xs ++ [] ≡ xs
append_none [] = refl
append_none (x ∷ xs) = ap (λ r. x ∷ r) (append_none xs)

-- another lane's entry
pub of_lane-other : (l : ℕ) (es : List Entry) (e : Entry) → e.lane ≢ l → of_lane l (es ++ e ∷ []) ≡ of_lane l es
of_lane-other l es e ne = of_lane-grown l es e ∙ ap (λ r. of_lane l es ++ r) (of_lane-none l e ne) ∙ append_none (of_lane l es)

-- the lane's own entry
pub of_lane-own : (l : ℕ) (es : List Entry) (e : Entry) → e.lane ≡ l → of_lane l (es ++ e ∷ []) ≡ of_lane l es ++ e ∷ []
of_lane-own l es e q = of_lane-grown l es e ∙ ap (λ r. of_lane l es ++ r) (of_lane-one l e q)

pub listed-same : (n : ℕ) (f h : ℕ → ℕ) → ((j : ℕ) → j < n → f j ≡ h j) → listed n f ≡ listed n h
unfolding listed
listed-same zero f h e = refl
listed-same (suc n) f h e = cc (listed-same n f h (λ j lt. e j (omega arith)), e n (omega arith))

pub listed-take : (n : ℕ) (f : ℕ → ℕ) (ws : List ℕ) → n ≤ length ws → ((j : ℕ) → j < n → f j ≡ get_or ws j 0) → listed n f ≡ take n ws
unfolding listed
listed-take zero f ws le e = refl
listed-take (suc n) f ws le e = cc (listed-take n f ws (omega arith) (λ j lt. e j (omega arith)), e n (omega arith), take-suc ws n 0 (omega arith))

pub listed-more : (n : ℕ) (f : ℕ → ℕ) → listed (n + 1) f ≡ listed n f ++ f n ∷ []
unfolding listed
listed-more n f = rw add-one refl

pub cell_in-row : (width : ℕ) (d d' : ℕ → ℕ → ℕ) (e t : ℕ) → d' (block_in e t) ≡ d (block_in e t) → cell_in width d e t ≡ cell_in width d' e t
unfolding cell_in
cell_in-row width d d' e t q = ap (λ r. cell_by width (kind_in e) r) (sym q)

pub cell_in-normal : (width : ℕ) (d : ℕ → ℕ → ℕ) (b t : ℕ) → b < 2 ^ 30 → cell_in width d (normal b) t ≡ cell.Bytes (listed width (d b))
unfolding cell_in
cell_in-normal width d b t small =
    ap (λ k. cell_by width k (d (block_in (normal b) t))) (kind_in-normal b small) ∙ ap (λ x. cell.Bytes (listed width (d x))) (block_in-normal b t small)

cell_by-bytes : (width : ℕ) (row : ℕ → ℕ) (k : Kind) → has_bytes k ≡ true → cell_by width k row ≡ cell.Bytes (listed width row)
cell_by-bytes width row kind.Initial q = refl
cell_by-bytes width row kind.Normal q = refl
cell_by-bytes width row kind.Zero q = never q
cell_by-bytes width row kind.Bad q = never q

pub cell_in-bytes : (width : ℕ) (d : ℕ → ℕ → ℕ) (e t : ℕ) → has_bytes (kind_in e) ≡ true → cell_in width d e t ≡ cell.Bytes (listed width (d (block_in e t)))
unfolding cell_in
cell_in-bytes width d e t q = cell_by-bytes width (d (block_in e t)) (kind_in e) q

pub cell_in-zero : (width : ℕ) (d : ℕ → ℕ → ℕ) (e t : ℕ) → kind_in e ≡ kind.Zero → cell_in width d e t ≡ cell.Bytes (replicate width 0)
unfolding cell_in
cell_in-zero width d e t q = ap (λ k. cell_by width k (d (block_in e t))) q

pub cell_in-bad : (width : ℕ) (d : ℕ → ℕ → ℕ) (e t : ℕ) → kind_in e ≡ kind.Bad → cell_in width d e t ≡ cell.Bad
unfolding cell_in
cell_in-bad width d e t q = ap (λ k. cell_by width k (d (block_in e t))) q

cell_by-words : (width : ℕ) (row row' : ℕ → ℕ) (k : Kind) → ((j : ℕ) → j < width → row j ≡ row' j) → cell_by width k row ≡ cell_by width k row'
cell_by-words width row row' kind.Initial q = ap cell.Bytes (listed-same width row row' q)
cell_by-words width row row' kind.Normal q = ap cell.Bytes (listed-same width row row' q)
cell_by-words width row row' kind.Zero q = refl
cell_by-words width row row' kind.Bad q = refl

pub cell_in-words : (width : ℕ) (d d' : ℕ → ℕ → ℕ) (e t : ℕ) → ((j : ℕ) → j < width → d (block_in e t) j ≡ d' (block_in e t) j) → cell_in width d e t ≡ cell_in width d' e t
unfolding cell_in
cell_in-words width d d' e t q = cell_by-words width (d (block_in e t)) (d' (block_in e t)) (kind_in e) q
