-- The mappings of a valid set lie on different modules, so together they have no more bytes than all contents.
use Rattle.std.proofs.Common.{◌≡◌, ◌≢◌, ℕ, ◌+◌, ◌*◌, ◌<◌, ◌≤◌, Bool, true, false, eqb, List, [], ◌∷◌, length, set, get_or, Option, Some, None, Ok, refl, sym, ap, ◌∙◌, subst, inl, inr, arith}
use Rattle.std.specs.Prelude.{⊤, sum, find, ◌==◌}
use Rattle.std.specs.Option.{option_map}
use Rattle.std.proofs.lemmas.Bool.{cases_Bool, eq-eqb}
use Rattle.std.proofs.lemmas.List.{get_or-set_other, length-set}
use Rattle.std.proofs.lemmas.List.Elements.{All-contains}
use Rattle.std.proofs.lemmas.List.Sums.{sum_by-set}
use Rattle.nvd_words.specs.Checks.{first_fault}
use Rattle.nfit_reader.specs.declared.table.Mapping.{Mapping}
use Rattle.nfit_reader.specs.declared.table.Region.{Region}
use Rattle.interleave.specs.declared.set.SetFault.TheVariants.{Twice}
use Rattle.interleave.specs.Places.{by_offset}
use Rattle.interleave.specs.Sets.{faults_of, first_pair, set_reading}
use Rattle.interleave.specs.Sound.{span_of}
use Rattle.interleave.proofs.Checked.{Passes, no_fault, no_first, passes_from}
use Rattle.interleave.proofs.Holders.{In, in_to}
use Rattle.interleave.proofs.Sorted.{Sound, makes_set, sound_set}
use Rattle.image_set.specs.Sound.{IsMapped, AreMapped}

-- ---- mappings of different modules

-- no mapping is of a module
abbrev Without : ℕ → List Mapping → Type 0
Without n ms = (m : Mapping) → In ms m → m.«module» ≢ n

-- no two are of one module
abbrev Distinct : List Mapping → Type 0
Distinct [] = ⊤
Distinct (m ∷ ms) = Without m.«module» ms × Distinct ms

unmapped : {A F : Type 0} (f : A → F) (o : Option A) → option_map f o ≡ None → o ≡ None
unmapped f None e = refl
unmapped f (Some x) e = absurd (cc)

none_found : (p : Mapping → Bool) (xs : List Mapping) (x : Mapping) → find p xs ≡ None → In xs x → p x ≡ false
none_found p [] x e i = absurd i
none_found p (y ∷ ys) x e (inl same) =
    elim (cases_Bool (p y)) [
      | inl hit ↦ absurd (let e' = rw hit at e in cc)
      | inr miss ↦ ap p (sym same) ∙ miss
    ]
none_found p (y ∷ ys) x e (inr i) =
    elim (cases_Bool (p y)) [
      | inl hit ↦ absurd (let e' = rw hit at e in cc)
      | inr miss ↦ none_found p ys x (rw miss at e) i
    ]

without_from : (m : Mapping) (ms : List Mapping) → find (λ k. m.«module» == k.«module») ms ≡ None → Without m.«module» ms
without_from m ms none = λ k i e.
    let apart : eqb m.«module» k.«module» ≡ false = none_found (λ k. m.«module» == k.«module») ms k none i in
    let same : eqb m.«module» k.«module» ≡ true = eq-eqb m.«module» k.«module» (sym e) in
    cc

distinct_from : (ms : List Mapping) → first_pair (λ m k. m.«module» == k.«module») (λ m k. Twice m.«module») ms ≡ None → Distinct ms
unfolding first_pair
distinct_from [] none = tt
distinct_from (m ∷ ms) none =
    let here = no_first (option_map (λ (k : Mapping). Twice m.«module») (find (λ k. m.«module» == k.«module») ms)) (first_pair (λ m k. m.«module» == k.«module») (λ m k. Twice m.«module») ms ∷ []) none in (
      without_from m ms (unmapped (λ (k : Mapping). Twice m.«module») (find (λ k. m.«module» == k.«module») ms) here.0),
      distinct_from ms (no_first (first_pair (λ m k. m.«module» == k.«module») (λ m k. Twice m.«module») ms) [] here.1).0,
    )

-- ---- their bytes together

-- a mapping's module has as many bytes
abbrev HasRoom : ℕ → Mapping → List ℕ → Type 0
HasRoom span m sizes = (m.«module» < length sizes) × (span ≤ get_or sizes m.«module» 0)

-- another module keeps its bytes
room_kept : (span : ℕ) (m k : Mapping) (sizes : List ℕ) → k.«module» ≢ m.«module» → HasRoom span k sizes → HasRoom span k (set sizes m.«module» 0)
room_kept span m k sizes apart room = (
  omega (arith, room.0, length-set sizes m.«module» 0),
  omega (arith, room.1, get_or-set_other sizes m.«module» k.«module» 0 0 apart),
)

rooms : (span : ℕ) (sizes : List ℕ) (ms : List Mapping) → Distinct ms → ((m : Mapping) → In ms m → HasRoom span m sizes) → length ms * span ≤ sum sizes
rooms span sizes [] apart room = omega arith
rooms span sizes (m ∷ ms) apart room =
    let own : HasRoom span m sizes = room m (inl refl) in
    let rest : length ms * span ≤ sum (set sizes m.«module» 0) =
    rooms span (set sizes m.«module» 0) ms apart.1 (λ k i. room_kept span m k sizes (apart.0 k i) (room k (inr i))) in
    let without : sum (set sizes m.«module» 0) + get_or sizes m.«module» 0 ≡ sum sizes + 0 = sum_by-set (λ (x : ℕ). x) sizes m.«module» 0 0 own.0 in
    omega (arith, own.1, rest, without)

-- ---- a valid set

rooms_at : (sizes : List ℕ) (r : Region) (mappings ms : List Mapping) → set_reading r ≡ Ok mappings → AreMapped sizes r → r.mappings ≡ ms → first_fault (faults_of r ms) ≡ None
    → length mappings * span_of mappings ≤ sum sizes
rooms_at sizes r mappings [] read mapped is none =
    let s : Sound r mappings = sound_set r mappings read in
    let empty : length mappings ≡ 0 = s.ways ∙ ap length is in
    subst (λ (n : ℕ). n * span_of mappings ≤ sum sizes) (sym empty) (omega arith)
rooms_at sizes r mappings (first ∷ rest) read mapped is none =
    let passes : Passes r first = passes_from r first none in
    let total : length mappings * span_of mappings ≡ length r.mappings * first.size = (makes_set r mappings read (omega (arith, ap length is))).total ∙ sym passes.total in
    let apart : Distinct r.mappings = distinct_from r.mappings (no_first _ _ (no_first _ _ none).1).0 in
    let room : (m : Mapping) → In r.mappings m → HasRoom first.size m sizes =
    λ m i.
    let own : IsMapped sizes m = All-contains (IsMapped sizes) r.mappings m mapped (in_to r.mappings m i) in
    (own.there, omega (arith, own.inside, (passes.sizes m i).size)) in
    omega (arith, total, rooms first.size sizes r.mappings apart room)

-- the mappings of a set have no more bytes together than all contents
pub spans_within : (sizes : List ℕ) (r : Region) (mappings : List Mapping) → set_reading r ≡ Ok mappings → AreMapped sizes r → length mappings * span_of mappings ≤ sum sizes
spans_within sizes r mappings read mapped =
    rooms_at sizes r mappings r.mappings read mapped refl (no_fault (by_offset r.mappings) mappings (first_fault (faults_of r r.mappings)) read).0
