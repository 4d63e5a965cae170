-- The values stored since the last flush, of words that may be pending or not.
use Rattle.std.proofs.Common.{◌≡◌, ℕ, zero, suc, ◌<◌, Bool, true, false, cond, List, [], ◌∷◌, length, get_or, replicate, Option, Some, None, refl, ap, ◌∙◌, arith}
use Rattle.std.proofs.Math.ListN.{set}
use Rattle.cut_words.specs.Words.{Words}
use Rattle.cut_words.specs.Pending.{options_of}

-- none
pub options_none : (n : ℕ) → options_of (replicate n false) (replicate n 0) ≡ replicate n None
options_none zero = refl
options_none (suc n) = ap (λ (os : List (Option ℕ)). None ∷ os) (options_none n)

pub length_options : (flags : List Bool) (values : List ℕ) → length flags ≡ length values → length (options_of flags values) ≡ length values
length_options [] [] same = refl
length_options [] (v ∷ values) same = absurd (omega arith)
length_options (f ∷ flags) [] same = refl
length_options (f ∷ flags) (v ∷ values) same = ap suc (length_options flags values (omega arith))

-- one
pub option_at : (flags : List Bool) (values : List ℕ) (i : ℕ) → i < length flags → i < length values
    → get_or (options_of flags values) i None ≡ cond (get_or flags i false) (Some (get_or values i 0)) None
option_at [] values i in_flags in_values = absurd (omega arith)
option_at (f ∷ flags) [] i in_flags in_values = absurd (omega arith)
option_at (f ∷ flags) (v ∷ values) zero in_flags in_values = refl
option_at (f ∷ flags) (v ∷ values) (suc i) in_flags in_values = option_at flags values i (omega arith) (omega arith)

-- a value is stored
pub options-store : (flags : List Bool) (values : List ℕ) (i v : ℕ) → i < length flags → i < length values
    → options_of (set flags i true) (set values i v) ≡ set (options_of flags values) i (Some v)
options-store [] values i v in_flags in_values = absurd (omega arith)
options-store (f ∷ flags) [] i v in_flags in_values = absurd (omega arith)
options-store (f ∷ flags) (w ∷ values) zero v in_flags in_values = refl
options-store (f ∷ flags) (w ∷ values) (suc i) v in_flags in_values =
    ap (λ (os : List (Option ℕ)). cond f (Some w) None ∷ os) (options-store flags values i v (omega arith) (omega arith))

-- a value is kept
pub options-clear : (flags : List Bool) (values : List ℕ) (i : ℕ) → i < length flags → i < length values
    → options_of (set flags i false) values ≡ set (options_of flags values) i None
options-clear [] values i in_flags in_values = absurd (omega arith)
options-clear (f ∷ flags) [] i in_flags in_values = absurd (omega arith)
options-clear (f ∷ flags) (w ∷ values) zero in_flags in_values = refl
options-clear (f ∷ flags) (w ∷ values) (suc i) in_flags in_values =
    ap (λ (os : List (Option ℕ)). cond f (Some w) None ∷ os) (options-clear flags values i (omega arith) (omega arith))

-- fresh words
pub options_fresh : (flags : List Bool) (values : List ℕ) (n m k : ℕ) → flags ≡ replicate n false → values ≡ replicate m 0 → n ≡ k → m ≡ k → options_of flags values ≡ replicate k None
options_fresh flags values n m k no_flags zeros n_is m_is =
    ap (λ (fs : List Bool). options_of fs values) (no_flags ∙ ap (λ (j : ℕ). replicate j false) n_is)
    ∙ ap (options_of (replicate k false)) (zeros ∙ ap (λ (j : ℕ). replicate j 0) m_is) ∙ options_none k

abbrev pub kept_with : List ℕ → List (Option ℕ) → Words
kept_with kept stored = record { kept = kept; stored = stored }
