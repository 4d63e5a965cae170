-- Bytes that aren't UTF-8.
use Rattle.std.proofs.Common.{◌≡◌, ℕ, true, false, List, sym, inl, inr}
use Rattle.std.specs.Str.{IsUtf8, is_utf8}
use Rattle.std.proofs.lemmas.Bool.{cases_Bool}
use Rattle.std.proofs.lemmas.Str.{is_utf8-from_IsUtf8, IsUtf8-from_is_utf8}

pub text_true : (bytes : List ℕ) → IsUtf8 bytes → true ≡ is_utf8 bytes
text_true bytes is = sym (is_utf8-from_IsUtf8 bytes is)

pub text_false : (bytes : List ℕ) → ¬ (IsUtf8 bytes) → false ≡ is_utf8 bytes
text_false bytes not_so =
    elim (cases_Bool (is_utf8 bytes)) [
      | inl so ↦ absurd (not_so (IsUtf8-from_is_utf8 bytes so))
      | inr other ↦ sym other
    ]
