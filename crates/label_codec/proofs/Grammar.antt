-- A slot is read as a label exactly if its bytes encode it by the grammar.
use Rattle.std.proofs.Common.{◌≡◌, ℕ, ◌+◌, ◌%◌, ◌^◌, ◌≤◌, Bool, true, false, eqb, ltb, cond, not, List, [], ◌∷◌, Option, Some, None, Ok, refl, sym, ap, ◌∙◌, arith, inl, inr}
use Rattle.std.specs.Prelude.{◌||◌}
use Rattle.std.specs.Int.{w32, w64}
use Rattle.std.specs.Option.{option_map}
use Rattle.std.proofs.lemmas.Bool.{eq-eqb, eqb-true, eqb-false, ne_eqb, ltb-false, le-ltb, not-false, cases_Bool}
use Rattle.nvd_words.specs.Bytes.{number_at}
use Rattle.nvd_words.specs.Checks.{first_fault, fault_if, value_unless}
use Rattle.nvd_words.specs.Fletcher.{fletcher64_of, without_eight}
use Rattle.label_codec.specs.declared.label.Label.{Label}
use Rattle.label_codec.specs.declared.label.LabelFault.TheVariants.{Checksum, Slot, OddSize}
use Rattle.label_codec.specs.Sizes.{size_fault_of}
use Rattle.label_codec.specs.Label.{label_of, label_reading, has_checksum}
use Rattle.label_codec.specs.Grammar.{StandsFor, GrammarIsReading}

-- ---- no fault was found

no_first : {A F : Type 0} (value r : A) (o : Option F) (faults : List (Option F)) → value_unless value (first_fault (o ∷ faults)) ≡ Ok r
    → (o ≡ None) × (value_unless value (first_fault faults) ≡ Ok r)
unfolding first_fault
no_first value r None faults e = (refl, e)
no_first value r (Some fault) faults e = absurd (cc)

none_left : {A F : Type 0} (value r : A) → value_unless value (first_fault {F = F} []) ≡ Ok r → r ≡ value
unfolding first_fault
none_left value r e = cc

no_fault_if : {F : Type 0} (b : Bool) (fault : F) → fault_if b fault ≡ None → b ≡ false
no_fault_if true fault e = absurd (cc)
no_fault_if false fault e = refl

no_mapped : {A F : Type 0} (f : A → F) (o : Option A) → option_map f o ≡ None → o ≡ None
no_mapped f None e = refl
no_mapped f (Some x) e = absurd (cc)

here : {A : Type 0} (b : Bool) (x y : A) → b ≡ true → cond b x y ≡ x
here b x y e = rw e refl

there : {A : Type 0} (b : Bool) (x y : A) → b ≡ false → cond b x y ≡ y
there b x y e = rw e refl

some_none : {A : Type 0} {x : A} → Some x ≡ None → ⊥
some_none e = cc

or_parts : (x y : Bool) → (x || y) ≡ false → (x ≡ false) × (y ≡ false)
or_parts true y e = absurd (cc)
or_parts false y e = (refl, e)

-- ---- the sizes

-- the sizes that a label may have
pub record AreSizes (dpa raw : ℕ) : Type 0 where
  pub dpa_whole : dpa % 4096 ≡ 0
  pub raw_whole : raw % 4096 ≡ 0
  pub raw_some : 1 ≤ raw
  pub raw_ends : dpa + raw ≤ 2 ^ 63

pub sizes_by : (dpa raw : ℕ) → size_fault_of dpa raw ≡ None → AreSizes dpa raw
unfolding size_fault_of
sizes_by dpa raw e =
    elim (cases_Bool (not (eqb (dpa % 4096) 0))) [
      | inl odd ↦ absurd (some_none (sym (here (not (eqb (dpa % 4096) 0)) _ _ odd) ∙ e))
      | inr whole ↦
          elim (cases_Bool (not (eqb (raw % 4096) 0) || eqb raw 0 || ltb (2 ^ 63) (dpa + raw))) [
            | inl odd ↦ absurd (some_none (sym (here _ _ _ odd) ∙ sym (there (not (eqb (dpa % 4096) 0)) _ _ whole) ∙ e))
            | inr good ↦
                let one = or_parts (not (eqb (raw % 4096) 0) || eqb raw 0) (ltb (2 ^ 63) (dpa + raw)) good in
                let two = or_parts (not (eqb (raw % 4096) 0)) (eqb raw 0) one.0 in
                record {
                  dpa_whole = eqb-true (dpa % 4096) 0 (not-false (eqb (dpa % 4096) 0) whole);
                  raw_whole = eqb-true (raw % 4096) 0 (not-false (eqb (raw % 4096) 0) two.0);
                  raw_some = omega (arith, eqb-false raw 0 two.1);
                  raw_ends = ltb-false (2 ^ 63) (dpa + raw) one.1;
                }
          ]
    ]

pub sizes_test : (dpa raw : ℕ) → AreSizes dpa raw → size_fault_of dpa raw ≡ None
unfolding size_fault_of
sizes_test dpa raw ok =
    rw (eq-eqb (dpa % 4096) 0 ok.dpa_whole, eq-eqb (raw % 4096) 0 ok.raw_whole, ne_eqb raw 0 (λ e. omega (arith, ok.raw_some)), le-ltb (2 ^ 63) (dpa + raw) ok.raw_ends) refl

-- ---- the checksum

summed_by : (bytes : List ℕ) → has_checksum bytes ≡ true → number_at w64 bytes 248 ≡ fletcher64_of (without_eight bytes 248)
unfolding has_checksum
summed_by bytes e = eqb-true (number_at w64 bytes 248) (fletcher64_of (without_eight bytes 248)) e

summed_test : (bytes : List ℕ) → number_at w64 bytes 248 ≡ fletcher64_of (without_eight bytes 248) → has_checksum bytes ≡ true
unfolding has_checksum
summed_test bytes e = eq-eqb (number_at w64 bytes 248) (fletcher64_of (without_eight bytes 248)) e

-- ---- both directions

pub reads_grammar : (bytes : List ℕ) (number : ℕ) (l : Label) → label_reading bytes number ≡ Ok l → StandsFor bytes number l
unfolding label_of
reads_grammar bytes number l e =
    let value : Label = label_of bytes in
    let dpa : ℕ = number_at w64 bytes 104 in
    let raw : ℕ = number_at w64 bytes 112 in
    let said : ℕ = number_at w32 bytes 120 in
    let one = no_first value l (fault_if (not (has_checksum bytes)) Checksum) _ e in
    let two = no_first value l (fault_if (not (eqb said number)) (Slot said)) _ one.1 in
    let three = no_first value l (option_map (λ field. OddSize field) (size_fault_of dpa raw)) _ two.1 in
    let same : l ≡ value = none_left value l three.1 in
    let sizes = sizes_by dpa raw (no_mapped (λ field. OddSize field) (size_fault_of dpa raw) three.0) in
    let dpa_is : l.dpa ≡ dpa = ap (λ (x : Label). x.dpa) same in
    let raw_is : l.raw ≡ raw = ap (λ (x : Label). x.raw) same in
    record {
      sum = summed_by bytes (not-false (has_checksum bytes) (no_fault_if (not (has_checksum bytes)) Checksum one.0));
      numbered = eqb-true said number (not-false (eqb said number) (no_fault_if (not (eqb said number)) (Slot said) two.0));
      dpa_whole = rw dpa_is sizes.dpa_whole;
      raw_whole = rw raw_is sizes.raw_whole;
      raw_some = rw raw_is sizes.raw_some;
      raw_ends = rw (dpa_is, raw_is) sizes.raw_ends;
      uuid = ap (λ (x : Label). x.uuid) same;
      name = ap (λ (x : Label). x.name) same;
      flags = ap (λ (x : Label). x.flags) same;
      count = ap (λ (x : Label). x.count) same;
      position = ap (λ (x : Label). x.position) same;
      cookie = ap (λ (x : Label). x.cookie) same;
      lba = ap (λ (x : Label). x.lba) same;
      dpa = dpa_is;
      raw = raw_is;
      slot = ap (λ (x : Label). x.slot) same;
      align = ap (λ (x : Label). x.align) same;
      kind = ap (λ (x : Label). x.kind) same;
      abstraction = ap (λ (x : Label). x.abstraction) same;
      spa_cookie = ap (λ (x : Label). x.spa_cookie) same;
    }

pub label_is : (bytes : List ℕ) (number : ℕ) (l : Label) → StandsFor bytes number l → label_of bytes ≡ l
unfolding label_of
label_is bytes number l ok =
    let p0 = sym ok.uuid in let p1 = sym ok.name in let p2 = sym ok.flags in let p3 = sym ok.count in let p4 = sym ok.position in let p5 = sym ok.cookie in
    let p6 = sym ok.lba in let p7 = sym ok.dpa in let p8 = sym ok.raw in let p9 = sym ok.slot in let p10 = sym ok.align in let p11 = sym ok.kind in
    let p12 = sym ok.abstraction in let p13 = sym ok.spa_cookie in
    λ i. record { uuid = p0 i; name = p1 i; flags = p2 i; count = p3 i; position = p4 i; cookie = p5 i; lba = p6 i; dpa = p7 i; raw = p8 i; slot = p9 i; align = p10 i; kind = p11 i; abstraction = p12 i; spa_cookie = p13 i }

grammar_reads : (bytes : List ℕ) (number : ℕ) (l : Label) → StandsFor bytes number l → label_reading bytes number ≡ Ok l
unfolding first_fault
grammar_reads bytes number l ok =
    let dpa : ℕ = number_at w64 bytes 104 in
    let raw : ℕ = number_at w64 bytes 112 in
    let sizes : AreSizes dpa raw = record {
      dpa_whole = rw (← ok.dpa) ok.dpa_whole;
      raw_whole = rw (← ok.raw) ok.raw_whole;
      raw_some = rw (← ok.raw) ok.raw_some;
      raw_ends = rw (← ok.dpa, ← ok.raw) ok.raw_ends;
    } in
    rw (summed_test bytes ok.sum, eq-eqb (number_at w32 bytes 120) number ok.numbered, sizes_test dpa raw sizes) (ap Ok (label_is bytes number l ok))

pub grammar_is_reading : GrammarIsReading
grammar_is_reading bytes number l = (reads_grammar bytes number l, grammar_reads bytes number l)
