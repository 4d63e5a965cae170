-- One step under a fuse.
use Rattle.std.proofs.Common.{◌≡◌, ℕ, ◌<◌, Bool, true, false, cond, List, [], ◌∷◌, length, take, get_or, Option, Some, None, refl, sym, ap, ◌∙◌, arith}
use Rattle.std.specs.Prelude.{unwrap_or, is_some}
use Rattle.std.proofs.Math.ListN.{set}
use Rattle.std.proofs.lemmas.Bool.{leb-true, leb-false}
use Rattle.std.proofs.lemmas.List.{take_all, set-get_or, get_or_read}
use Rattle.cut_words.specs.Words.{Words, Step, store, keep, stepped, after, seen_at}
use Rattle.cut_words.specs.Fuses.{burnt, lasts, Makes}
use Rattle.cut_words.specs.Pending.{options_of}
use Rattle.cut_words.proofs.Since.{option_at, options-store, options-clear}

after_one : (w : Words) (s : Step) → after w (s ∷ []) ≡ stepped w s
unfolding after
after_one w s = refl

after_nothing : (w : Words) (s : Step) (n : ℕ) → n ≡ 0 → after w (take n (s ∷ [])) ≡ w
unfolding after
after_nothing w s n e = ap (λ (k : ℕ). after w (take k (s ∷ []))) e

no_less : (n : ℕ) → n < 1 → n ≡ 0
no_less n lt = omega arith

pub made_one : (w w1 : Words) (f f1 : Option ℕ) (s : Step) → true ≡ lasts f 1 → f1 ≡ burnt f 1 → w1 ≡ stepped w s → Makes w w1 f f1 (s ∷ []) true
made_one w w1 None f1 s enough left is = record { words = is ∙ sym (after_one w s); fuse_left = left; all_made = enough }
made_one w w1 (Some n) f1 s enough left is = record {
  words = is ∙ sym (ap (after w) (take_all n (s ∷ []) (leb-true 1 n (sym enough))) ∙ after_one w s);
  fuse_left = left;
  all_made = enough;
}

pub cut_one : (w : Words) (f f1 : Option ℕ) (s : Step) → false ≡ lasts f 1 → f1 ≡ burnt f 1 → Makes w w f f1 (s ∷ []) false
cut_one w None f1 s short left = absurd (cc)
cut_one w (Some n) f1 s short left = record {
  words = sym (after_nothing w s n (no_less n (leb-false 1 n (sym short))));
  fuse_left = left;
  all_made = short;
}

-- the kept words, with the stored values of the pending ones
abbrev pub words_of : List ℕ → List Bool → List ℕ → Words
words_of kept flags values = record { kept = kept; stored = options_of flags values }

-- a load of a pending word
pub seen_pending : (kept : List ℕ) (flags : List Bool) (values : List ℕ) (i : ℕ) → i < length flags → i < length values → get_or flags i false ≡ true
    → seen_at (words_of kept flags values) i ≡ get_or values i 0
seen_pending kept flags values i in_flags in_values is =
    ap (λ (o : Option ℕ). unwrap_or o (get_or kept i 0)) (option_at flags values i in_flags in_values ∙ ap (λ (b : Bool). cond b (Some (get_or values i 0)) None) is)

pub seen_kept : (kept : List ℕ) (flags : List Bool) (values : List ℕ) (i : ℕ) → i < length flags → i < length values → get_or flags i false ≡ false
    → seen_at (words_of kept flags values) i ≡ get_or kept i 0
seen_kept kept flags values i in_flags in_values is =
    ap (λ (o : Option ℕ). unwrap_or o (get_or kept i 0)) (option_at flags values i in_flags in_values ∙ ap (λ (b : Bool). cond b (Some (get_or values i 0)) None) is)

-- a store
pub stored_as : (kept : List ℕ) (flags : List Bool) (values : List ℕ) (i v : ℕ) → i < length flags → i < length values
    → words_of kept (set flags i true) (set values i v) ≡ stepped (words_of kept flags values) (store i v)
stored_as kept flags values i v in_flags in_values = ap (λ (os : List (Option ℕ)). record { kept = kept; stored = os }) (options-store flags values i v in_flags in_values)

-- a keep of a word that is pending
pub kept_as : (kept : List ℕ) (flags : List Bool) (values : List ℕ) (i v : ℕ) → i < length flags → i < length values → get_or flags i false ≡ true → v ≡ get_or values i 0
    → words_of (set kept i v) (set flags i false) values ≡ stepped (words_of kept flags values) (keep i)
kept_as kept flags values i v in_flags in_values is read =
    λ k. record {
      kept = set kept i ((read ∙ sym (seen_pending kept flags values i in_flags in_values is)) k);
      stored = options-clear flags values i in_flags in_values k;
    }

nothing_stored : (flags : List Bool) (values : List ℕ) (i : ℕ) → i < length flags → i < length values → get_or flags i false ≡ false
    → options_of flags values ≡ set (options_of flags values) i None
nothing_stored flags values i in_flags in_values is =
    sym (ap (λ (o : Option ℕ). set (options_of flags values) i o)
    (sym (option_at flags values i in_flags in_values ∙ ap (λ (b : Bool). cond b (Some (get_or values i 0)) None) is))
    ∙ set-get_or (options_of flags values) i None)

-- a keep of a word that isn't
pub kept_still : (kept : List ℕ) (flags : List Bool) (values : List ℕ) (i : ℕ) → i < length flags → i < length values → get_or flags i false ≡ false
    → words_of kept flags values ≡ stepped (words_of kept flags values) (keep i)
kept_still kept flags values i in_flags in_values is =
    λ k. record {
      kept = (sym (ap (λ (v : ℕ). set kept i v) (seen_kept kept flags values i in_flags in_values is) ∙ set-get_or kept i 0)) k;
      stored = nothing_stored flags values i in_flags in_values is k;
    }

-- ---- in terms of the fields of a value and its view

module _ (kept : List ℕ) (flags : List Bool) (values : List ℕ) (view : Words) (i : ℕ) where
  in_flags : words_of kept flags values ≡ view → length values ≡ length kept → length flags ≡ length kept → i < length view.kept → i < length flags
  in_flags is sized flagged lt = omega (arith, ap (λ (w : Words). length w.kept) is, sized, flagged)

  in_values : words_of kept flags values ≡ view → length values ≡ length kept → length flags ≡ length kept → i < length view.kept → i < length values
  in_values is sized flagged lt = omega (arith, ap (λ (w : Words). length w.kept) is, sized, flagged)

  pub is_pending : (got : Bool) → words_of kept flags values ≡ view → length values ≡ length kept → length flags ≡ length kept → i < length view.kept
      → got ≡ get_or flags i false → got ≡ is_some (get_or view.stored i None)
  is_pending got is sized flagged lt read =
      let flag_lt : i < length flags = in_flags is sized flagged lt in
      let value_lt : i < length values = in_values is sized flagged lt in
      read ∙ by_flag (get_or flags i false)
      ∙ ap is_some (sym (option_at flags values i flag_lt value_lt) ∙ ap (λ (w : Words). get_or w.stored i None) is)
    where
      by_flag : (flag : Bool) → flag ≡ is_some (cond flag (Some (get_or values i 0)) None)
      by_flag true = refl
      by_flag false = refl

  pub loads_pending : (x : ℕ) → words_of kept flags values ≡ view → length values ≡ length kept → length flags ≡ length kept → i < length view.kept
      → get_or flags i false ≡ true → x ≡ get_or values i 0 → x ≡ seen_at view i
  loads_pending x is sized flagged lt flag read =
      let flag_lt : i < length flags = in_flags is sized flagged lt in
      let value_lt : i < length values = in_values is sized flagged lt in
      read ∙ sym (seen_pending kept flags values i flag_lt value_lt flag) ∙ ap (λ (w : Words). seen_at w i) is

  pub loads_kept : (x : ℕ) → words_of kept flags values ≡ view → length values ≡ length kept → length flags ≡ length kept → i < length view.kept
      → get_or flags i false ≡ false → x ≡ get_or kept i x → x ≡ seen_at view i
  loads_kept x is sized flagged lt flag read =
      let flag_lt : i < length flags = in_flags is sized flagged lt in
      let value_lt : i < length values = in_values is sized flagged lt in
      get_or_read kept i x (omega (arith, flagged, flag_lt)) read 0 ∙ sym (seen_kept kept flags values i flag_lt value_lt flag) ∙ ap (λ (w : Words). seen_at w i) is

pub stores_one : (kept : List ℕ) (flags flags' : List Bool) (values : List ℕ) (view : Words) (i v : ℕ) (f f1 : Option ℕ) → words_of kept flags values ≡ view
    → length values ≡ length kept → length flags ≡ length kept → i < length view.kept → flags' ≡ set flags i true → true ≡ lasts f 1 → f1 ≡ burnt f 1
    → Makes view (words_of kept flags' (set values i v)) f f1 (store i v ∷ []) true
stores_one kept flags flags' values view i v f f1 is sized flagged lt more enough left =
    made_one view (words_of kept flags' (set values i v)) f f1 (store i v) enough left
    (ap (λ (fs : List Bool). words_of kept fs (set values i v)) more
    ∙ stored_as kept flags values i v (in_flags kept flags values view i is sized flagged lt) (in_values kept flags values view i is sized flagged lt)
    ∙ ap (λ (w : Words). stepped w (store i v)) is)

pub keeps_one : (kept : List ℕ) (flags flags' : List Bool) (values : List ℕ) (view : Words) (i x : ℕ) (f f1 : Option ℕ) → words_of kept flags values ≡ view
    → length values ≡ length kept → length flags ≡ length kept → i < length view.kept → flags' ≡ set flags i false → get_or flags i false ≡ true → x ≡ get_or values i 0
    → true ≡ lasts f 1 → f1 ≡ burnt f 1 → Makes view (words_of (set kept i x) flags' values) f f1 (keep i ∷ []) true
keeps_one kept flags flags' values view i x f f1 is sized flagged lt less flag read enough left =
    let flag_lt : i < length flags = in_flags kept flags values view i is sized flagged lt in
    let value_lt : i < length values = in_values kept flags values view i is sized flagged lt in
    made_one view (words_of (set kept i x) flags' values) f f1 (keep i) enough left
    (ap (λ (fs : List Bool). words_of (set kept i x) fs values) less
    ∙ kept_as kept flags values i x flag_lt value_lt flag read
    ∙ ap (λ (w : Words). stepped w (keep i)) is)

pub keeps_still : (kept : List ℕ) (flags : List Bool) (values : List ℕ) (view : Words) (i : ℕ) (f f1 : Option ℕ) → words_of kept flags values ≡ view
    → length values ≡ length kept → length flags ≡ length kept → i < length view.kept → get_or flags i false ≡ false
    → true ≡ lasts f 1 → f1 ≡ burnt f 1 → Makes view view f f1 (keep i ∷ []) true
keeps_still kept flags values view i f f1 is sized flagged lt flag enough left =
    let flag_lt : i < length flags = in_flags kept flags values view i is sized flagged lt in
    let value_lt : i < length values = in_values kept flags values view i is sized flagged lt in
    made_one view view f f1 (keep i) enough left (sym is ∙ kept_still kept flags values i flag_lt value_lt flag ∙ ap (λ (w : Words). stepped w (keep i)) is)
