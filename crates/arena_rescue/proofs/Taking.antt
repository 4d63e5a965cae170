-- A loop that lists the lost sectors and gives them the entry of a sector of zeros.
use Rattle.std.proofs.Common.{◌≡◌, ℕ, ◌+◌, ◌<◌, ◌≤◌, Bool, cond, ltb, List, [], ◌∷◌, ◌++◌, length, get_or, Option, Some, None, refl, sym, ap, ◌∙◌, inl, inr, arith}
use Rattle.std.proofs.Math.ListN.{set}
use Rattle.std.proofs.lemmas.Bool.{cases_eq, cases_lt, le-ltb, lt-ltb}
use Rattle.std.proofs.lemmas.List.{append-nil, ext_get_or, get_or-set_other, get_or-set_same, length-set}
use Rattle.std.proofs.lemmas.List.FromFn.{get_or-map-range_with_len, length-map-range_with_len}
use Rattle.arena_layout.specs.declared.layout.Layout.{Layout}
use Rattle.map_table.specs.Entry.{entry_of, zero_of}
use Rattle.arena_rescue.specs.declared.loss.Loss.{Loss}
use Rattle.arena_rescue.specs.Rescue.{loss_by, rescued_entry}
use Rattle.arena_rescue.specs.Counting.{losses_to, lost_by, rescued_to}
use Rattle.arena_rescue.proofs.Ranges.{listed_more}

module _ (l : Layout) (bad twice : ℕ → Bool) (first : List ℕ) where
  -- the entry with which a sector is read
  abbrev pub read_at : ℕ → ℕ
  read_at i = rescued_entry (lost_by l bad twice first i) (get_or first i 0)

  -- the first n sectors are listed if they are lost, and have the entry with which they are read
  pub record Taken (now : List ℕ) (losses : List Loss) (n : ℕ) : Type 0 where
    pub long : length now ≡ length first
    pub listed : losses ≡ losses_to l bad twice first n
    pub entries : (i : ℕ) → get_or now i 0 ≡ cond (ltb i n) (read_at i) (get_or first i 0)

  pub taken_none : (now : List ℕ) (losses : List Loss) → now ≡ first → losses ≡ [] → Taken now losses 0
  taken_none now losses same none = record {
    long = ap length same;
    listed = none;
    entries = λ i. ap (λ (es : List ℕ). get_or es i 0) same ∙ sym (ap (λ (b : Bool). cond b (read_at i) (get_or first i 0)) (le-ltb i 0 (omega arith)));
  }

  module _ (now : List ℕ) (losses : List Loss) (n : ℕ) (was : Taken now losses n) where
    -- the next sector's entry is the old one
    old_there : get_or now n 0 ≡ get_or first n 0
    old_there = was.entries n ∙ ap (λ (b : Bool). cond b (read_at n) (get_or first n 0)) (le-ltb n n (omega arith))

    lost_there : (o : Option Loss) → loss_by l bad twice n (entry_of (get_or now n 0) n) ≡ o → lost_by l bad twice first n ≡ o
    lost_there o is = ap (λ (w : ℕ). loss_by l bad twice n (entry_of w n)) (sym old_there) ∙ is

    module _ (next : List ℕ) (here : get_or next n 0 ≡ read_at n) (others : (i : ℕ) → (i ≡ n → ⊥) → get_or next i 0 ≡ get_or now i 0) where
      one_more : (i : ℕ) → get_or next i 0 ≡ cond (ltb i (n + 1)) (read_at i) (get_or first i 0)
      one_more i = elim (cases_eq i n) [
        | inl same ↦ ap (λ (k : ℕ). get_or next k 0) same ∙ here ∙ ap read_at (sym same)
            ∙ sym (ap (λ (b : Bool). cond b (read_at i) (get_or first i 0)) (lt-ltb i (n + 1) (omega (arith, same))))
        | inr other ↦ others i other ∙ was.entries i ∙ ap (λ (b : Bool). cond b (read_at i) (get_or first i 0)) (before i other)
      ]
        where
          before : (i : ℕ) → (i ≡ n → ⊥) → ltb i n ≡ ltb i (n + 1)
          before i other = elim (cases_lt i n) [
            | inl lt ↦ lt-ltb i n lt ∙ sym (lt-ltb i (n + 1) (omega (arith, lt)))
            | inr ge ↦ le-ltb i n ge ∙ sym (le-ltb i (n + 1) (omega (arith, ge, other)))
          ]

    pub taken_lost : (next : List ℕ) (more : List Loss) (loss : Loss) (word : ℕ) → n < length now → loss_by l bad twice n (entry_of (get_or now n 0) n) ≡ Some loss
        → word ≡ zero_of 0 → next ≡ set now n word → more ≡ losses ++ loss ∷ [] → Taken next more (n + 1)
    taken_lost next more loss word lt is zero' same listed =
        let lost : lost_by l bad twice first n ≡ Some loss = lost_there (Some loss) is in
        record {
          long = ap length same ∙ length-set now n word ∙ was.long;
          listed = listed ∙ ap (λ (ls : List Loss). ls ++ loss ∷ []) was.listed ∙ sym (listed_more (lost_by l bad twice first) n (n + 1) (Some loss) refl lost);
          entries = one_more next
              (ap (λ (es : List ℕ). get_or es n 0) same ∙ get_or-set_same now n word 0 lt ∙ zero' ∙ sym (ap (λ (o : Option Loss). rescued_entry o (get_or first n 0)) lost))
              (λ i other. ap (λ (es : List ℕ). get_or es i 0) same ∙ get_or-set_other now n i word 0 other);
        }

    pub taken_own : (next : List ℕ) (more : List Loss) → loss_by l bad twice n (entry_of (get_or now n 0) n) ≡ None → next ≡ now → more ≡ losses → Taken next more (n + 1)
    taken_own next more is same listed =
        let own : lost_by l bad twice first n ≡ None = lost_there None is in
        record {
          long = ap length same ∙ was.long;
          listed = listed ∙ was.listed ∙ sym (listed_more (lost_by l bad twice first) n (n + 1) None refl own ∙ append-nil (losses_to l bad twice first n));
          entries = one_more next
              (ap (λ (es : List ℕ). get_or es n 0) same ∙ old_there ∙ sym (ap (λ (o : Option Loss). rescued_entry o (get_or first n 0)) own))
              (λ i other. ap (λ (es : List ℕ). get_or es i 0) same);
        }

    -- all sectors are taken
    pub taken_all : length first ≤ n → now ≡ rescued_to l bad twice first
    taken_all le =
        ext_get_or 0 now (rescued_to l bad twice first) (was.long ∙ sym (length-map-range_with_len read_at 0 (length first)))
        (λ i lt. let in' : i < length first = omega (arith, lt, was.long) in
        was.entries i ∙ ap (λ (b : Bool). cond b (read_at i) (get_or first i 0)) (lt-ltb i n (omega (arith, in', le)))
        ∙ sym (get_or-map-range_with_len read_at 0 (length first) i i 0 in' (omega arith)))
