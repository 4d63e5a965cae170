-- GUID order, there and back.
use Rattle.std.proofs.Common.{◌≡◌, ℕ, zero, suc, ◌<◌, List, length, get_or, refl, sym, arith}
use Rattle.std.proofs.lemmas.List.{ext_get_or}
use Rattle.uuid.specs.Parts.{swap_fields}

same_byte : (xs : List ℕ) (i : ℕ) → i < 16 → get_or (swap_fields (swap_fields xs)) i 0 ≡ get_or xs i 0
same_byte xs zero lt = refl
same_byte xs (suc zero) lt = refl
same_byte xs (suc (suc zero)) lt = refl
same_byte xs (suc (suc (suc zero))) lt = refl
same_byte xs (suc (suc (suc (suc zero)))) lt = refl
same_byte xs (suc (suc (suc (suc (suc zero))))) lt = refl
same_byte xs (suc (suc (suc (suc (suc (suc zero)))))) lt = refl
same_byte xs (suc (suc (suc (suc (suc (suc (suc zero))))))) lt = refl
same_byte xs (suc (suc (suc (suc (suc (suc (suc (suc zero)))))))) lt = refl
same_byte xs (suc (suc (suc (suc (suc (suc (suc (suc (suc zero))))))))) lt = refl
same_byte xs (suc (suc (suc (suc (suc (suc (suc (suc (suc (suc zero)))))))))) lt = refl
same_byte xs (suc (suc (suc (suc (suc (suc (suc (suc (suc (suc (suc zero))))))))))) lt = refl
same_byte xs (suc (suc (suc (suc (suc (suc (suc (suc (suc (suc (suc (suc zero)))))))))))) lt = refl
same_byte xs (suc (suc (suc (suc (suc (suc (suc (suc (suc (suc (suc (suc (suc zero))))))))))))) lt = refl
same_byte xs (suc (suc (suc (suc (suc (suc (suc (suc (suc (suc (suc (suc (suc (suc zero)))))))))))))) lt = refl
same_byte xs (suc (suc (suc (suc (suc (suc (suc (suc (suc (suc (suc (suc (suc (suc (suc zero))))))))))))))) lt = refl
same_byte xs (suc (suc (suc (suc (suc (suc (suc (suc (suc (suc (suc (suc (suc (suc (suc (suc k)))))))))))))))) lt = absurd (omega arith)

pub swap_twice : (xs : List ℕ) → length xs ≡ 16 → swap_fields (swap_fields xs) ≡ xs
swap_twice xs len = ext_get_or 0 (swap_fields (swap_fields xs)) xs (sym len) (λ i lt. same_byte xs i (omega (arith, lt)))
