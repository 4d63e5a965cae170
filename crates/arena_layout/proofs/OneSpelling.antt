-- Bytes that are read as an info, and have zeros in the ignored places, are that info's encoding.
use Rattle.std.proofs.Common.{◌≡◌, ℕ, zero, suc, ◌+◌, ◌%◌, ◌<◌, ◌≤◌, true, List, [], ◌∷◌, ◌++◌, length, take, drop, get_or, replicate, Result, Ok, Err, refl, sym, ap, ◌∙◌, arith, append_assoc}
use Rattle.std.specs.Prelude.{IfOk}
use Rattle.std.specs.Int.{w16, w32, w64, to_le_bytes, from_le_bytes}
use Rattle.std.proofs.lemmas.Bool.{eqb-true}
use Rattle.std.proofs.lemmas.Nat.{le_bytes_2, le_bytes_4, le_bytes_8}
use Rattle.std.proofs.lemmas.List.{length-append, length-take, length-drop, take_all, take_at, drop-drop, drop_all, append-nil, take-append-drop, get_or-drop}
use Rattle.std.proofs.lemmas.Slice.Eq.{bytes_eq-Decides}
use Rattle.nvd_words.specs.Bytes.{number_at}
use Rattle.nvd_words.specs.Fletcher.{fletcher64_of, without_eight}
use Rattle.arena_layout.specs.declared.info.Info.{Info}
use Rattle.arena_layout.specs.declared.info.InfoFault.{InfoFault}
use Rattle.arena_layout.specs.Info.{signature, bytes_at, has_signature, has_checksum, layout_of, info_of, info_reading}
use Rattle.arena_layout.specs.Spelling.{unused, body_of, spelling_of, HasZeros}
use Rattle.arena_layout.proofs.Reading.{PassesAll, all_passed, parts_of_areas}

-- ---- parts of a list of bytes

abbrev Small : List ℕ → Type 0
Small l = (i : ℕ) → get_or l i 0 < 256

small_take : (n : ℕ) (l : List ℕ) → Small l → Small (take n l)
small_take zero l s i = omega arith
small_take (suc n) [] s i = omega arith
small_take (suc n) (x ∷ l) s zero = s zero
small_take (suc n) (x ∷ l) s (suc i) = small_take n l (λ j. s (suc j)) i

small_drop : (n : ℕ) (l : List ℕ) → Small l → Small (drop n l)
small_drop n l s i = omega (arith, get_or-drop n l i 0, s (n + i))

length_part : (l : List ℕ) (a n : ℕ) → a + n ≤ length l → length (take n (drop a l)) ≡ n
length_part l a n le = omega (arith, length-take n (drop a l), length-drop a l, le)

num2 : (l : List ℕ) (a : ℕ) → Small l → a + 2 ≤ length l → to_le_bytes w16 (number_at w16 l a) ≡ take 2 (drop a l)
unfolding number_at
num2 l a s le = le_bytes_2 (take 2 (drop a l)) (from_le_bytes w16 (take 2 (drop a l))) (length_part l a 2 le) (small_take 2 (drop a l) (small_drop a l s)) refl

num4 : (l : List ℕ) (a : ℕ) → Small l → a + 4 ≤ length l → to_le_bytes w32 (number_at w32 l a) ≡ take 4 (drop a l)
unfolding number_at
num4 l a s le = le_bytes_4 (take 4 (drop a l)) (from_le_bytes w32 (take 4 (drop a l))) (length_part l a 4 le) (small_take 4 (drop a l) (small_drop a l s)) refl

num8 : (l : List ℕ) (a : ℕ) → Small l → a + 8 ≤ length l → to_le_bytes w64 (number_at w64 l a) ≡ take 8 (drop a l)
unfolding number_at
num8 l a s le = le_bytes_8 (take 8 (drop a l)) (from_le_bytes w64 (take 8 (drop a l))) (length_part l a 8 le) (small_take 8 (drop a l) (small_drop a l s)) refl

-- a part, and the rest after it
cut : (l : List ℕ) (a n m : ℕ) (x r : List ℕ) → m ≡ a + n → x ≡ take n (drop a l) → drop m l ≡ r → drop a l ≡ x ++ r
cut l a n m x r e f g =
    sym (take-append-drop n (drop a l)) ∙ ap (λ (y : List ℕ). y ++ drop n (drop a l)) (sym f)
    ∙ ap (λ (y : List ℕ). x ++ y) (drop-drop n a l ∙ ap (λ (k : ℕ). drop k l) (sym e) ∙ g)

assoc_parts : (s u p x0 x1 x2 x3 x4 x5 x6 x7 x8 x9 x10 x11 x12 x13 w z : List ℕ) → s ++ (u ++ (p ++ (x0 ++ (x1 ++ (x2 ++ (x3 ++ (x4 ++ (x5 ++ (x6 ++ (x7 ++ (x8 ++ (x9 ++ (x10 ++ (x11 ++ (x12 ++ (x13 ++ (w ++ z))))))))))))))))) ≡ (s ++ (u ++ (p ++ ((x0 ++ (x1 ++ (x2 ++ ((x3 ++ (x4 ++ (x5 ++ (x6 ++ (x7 ++ x8))))) ++ (x9 ++ (x10 ++ (x11 ++ (x12 ++ x13)))))))) ++ w)))) ++ z
assoc_parts s u p x0 x1 x2 x3 x4 x5 x6 x7 x8 x9 x10 x11 x12 x13 w z = simp append_assoc

signature_part : (bytes : List ℕ) → has_signature bytes ≡ true → signature ≡ take 16 bytes
unfolding has_signature
signature_part bytes e = sym ((bytes_eq-Decides (take 16 bytes) signature).0 e)

-- the numbers in the fields, as bytes
fields_flat : (bytes : List ℕ) → length bytes ≡ 4096 → Small bytes → HasZeros bytes → number_at w32 bytes 76 ≡ 4096
    → drop 48 bytes ≡ (to_le_bytes w32 (number_at w32 bytes 48 % 2)) ++ ((to_le_bytes w16 (number_at w16 bytes 52)) ++ ((to_le_bytes w16 (number_at w16 bytes 54)) ++ ((to_le_bytes w32 (number_at w32 bytes 56)) ++ ((to_le_bytes w32 (number_at w32 bytes 60)) ++ ((to_le_bytes w32 (number_at w32 bytes 64)) ++ ((to_le_bytes w32 (number_at w32 bytes 68)) ++ ((to_le_bytes w32 (number_at w32 bytes 72)) ++ ((to_le_bytes w32 4096) ++ ((to_le_bytes w64 (number_at w64 bytes 80)) ++ ((to_le_bytes w64 (number_at w64 bytes 88)) ++ ((to_le_bytes w64 (number_at w64 bytes 96)) ++ ((to_le_bytes w64 (number_at w64 bytes 104)) ++ ((to_le_bytes w64 (number_at w64 bytes 112)) ++ (unused ++ drop 4088 bytes))))))))))))))
fields_flat bytes len small zeros size =
    (cut bytes 48 4 52 (to_le_bytes w32 (number_at w32 bytes 48 % 2)) ((to_le_bytes w16 (number_at w16 bytes 52)) ++ ((to_le_bytes w16 (number_at w16 bytes 54)) ++ ((to_le_bytes w32 (number_at w32 bytes 56)) ++ ((to_le_bytes w32 (number_at w32 bytes 60)) ++ ((to_le_bytes w32 (number_at w32 bytes 64)) ++ ((to_le_bytes w32 (number_at w32 bytes 68)) ++ ((to_le_bytes w32 (number_at w32 bytes 72)) ++ ((to_le_bytes w32 4096) ++ ((to_le_bytes w64 (number_at w64 bytes 80)) ++ ((to_le_bytes w64 (number_at w64 bytes 88)) ++ ((to_le_bytes w64 (number_at w64 bytes 96)) ++ ((to_le_bytes w64 (number_at w64 bytes 104)) ++ ((to_le_bytes w64 (number_at w64 bytes 112)) ++ (unused ++ drop 4088 bytes)))))))))))))) refl (ap (to_le_bytes w32) (let e : number_at w32 bytes 48 % 2 ≡ number_at w32 bytes 48 = omega (arith, zeros.flags) in e) ∙ num4 bytes 48 small (omega (arith, len)))
    (cut bytes 52 2 54 (to_le_bytes w16 (number_at w16 bytes 52)) ((to_le_bytes w16 (number_at w16 bytes 54)) ++ ((to_le_bytes w32 (number_at w32 bytes 56)) ++ ((to_le_bytes w32 (number_at w32 bytes 60)) ++ ((to_le_bytes w32 (number_at w32 bytes 64)) ++ ((to_le_bytes w32 (number_at w32 bytes 68)) ++ ((to_le_bytes w32 (number_at w32 bytes 72)) ++ ((to_le_bytes w32 4096) ++ ((to_le_bytes w64 (number_at w64 bytes 80)) ++ ((to_le_bytes w64 (number_at w64 bytes 88)) ++ ((to_le_bytes w64 (number_at w64 bytes 96)) ++ ((to_le_bytes w64 (number_at w64 bytes 104)) ++ ((to_le_bytes w64 (number_at w64 bytes 112)) ++ (unused ++ drop 4088 bytes))))))))))))) refl (num2 bytes 52 small (omega (arith, len)))
    (cut bytes 54 2 56 (to_le_bytes w16 (number_at w16 bytes 54)) ((to_le_bytes w32 (number_at w32 bytes 56)) ++ ((to_le_bytes w32 (number_at w32 bytes 60)) ++ ((to_le_bytes w32 (number_at w32 bytes 64)) ++ ((to_le_bytes w32 (number_at w32 bytes 68)) ++ ((to_le_bytes w32 (number_at w32 bytes 72)) ++ ((to_le_bytes w32 4096) ++ ((to_le_bytes w64 (number_at w64 bytes 80)) ++ ((to_le_bytes w64 (number_at w64 bytes 88)) ++ ((to_le_bytes w64 (number_at w64 bytes 96)) ++ ((to_le_bytes w64 (number_at w64 bytes 104)) ++ ((to_le_bytes w64 (number_at w64 bytes 112)) ++ (unused ++ drop 4088 bytes)))))))))))) refl (num2 bytes 54 small (omega (arith, len)))
    (cut bytes 56 4 60 (to_le_bytes w32 (number_at w32 bytes 56)) ((to_le_bytes w32 (number_at w32 bytes 60)) ++ ((to_le_bytes w32 (number_at w32 bytes 64)) ++ ((to_le_bytes w32 (number_at w32 bytes 68)) ++ ((to_le_bytes w32 (number_at w32 bytes 72)) ++ ((to_le_bytes w32 4096) ++ ((to_le_bytes w64 (number_at w64 bytes 80)) ++ ((to_le_bytes w64 (number_at w64 bytes 88)) ++ ((to_le_bytes w64 (number_at w64 bytes 96)) ++ ((to_le_bytes w64 (number_at w64 bytes 104)) ++ ((to_le_bytes w64 (number_at w64 bytes 112)) ++ (unused ++ drop 4088 bytes))))))))))) refl (num4 bytes 56 small (omega (arith, len)))
    (cut bytes 60 4 64 (to_le_bytes w32 (number_at w32 bytes 60)) ((to_le_bytes w32 (number_at w32 bytes 64)) ++ ((to_le_bytes w32 (number_at w32 bytes 68)) ++ ((to_le_bytes w32 (number_at w32 bytes 72)) ++ ((to_le_bytes w32 4096) ++ ((to_le_bytes w64 (number_at w64 bytes 80)) ++ ((to_le_bytes w64 (number_at w64 bytes 88)) ++ ((to_le_bytes w64 (number_at w64 bytes 96)) ++ ((to_le_bytes w64 (number_at w64 bytes 104)) ++ ((to_le_bytes w64 (number_at w64 bytes 112)) ++ (unused ++ drop 4088 bytes)))))))))) refl (num4 bytes 60 small (omega (arith, len)))
    (cut bytes 64 4 68 (to_le_bytes w32 (number_at w32 bytes 64)) ((to_le_bytes w32 (number_at w32 bytes 68)) ++ ((to_le_bytes w32 (number_at w32 bytes 72)) ++ ((to_le_bytes w32 4096) ++ ((to_le_bytes w64 (number_at w64 bytes 80)) ++ ((to_le_bytes w64 (number_at w64 bytes 88)) ++ ((to_le_bytes w64 (number_at w64 bytes 96)) ++ ((to_le_bytes w64 (number_at w64 bytes 104)) ++ ((to_le_bytes w64 (number_at w64 bytes 112)) ++ (unused ++ drop 4088 bytes))))))))) refl (num4 bytes 64 small (omega (arith, len)))
    (cut bytes 68 4 72 (to_le_bytes w32 (number_at w32 bytes 68)) ((to_le_bytes w32 (number_at w32 bytes 72)) ++ ((to_le_bytes w32 4096) ++ ((to_le_bytes w64 (number_at w64 bytes 80)) ++ ((to_le_bytes w64 (number_at w64 bytes 88)) ++ ((to_le_bytes w64 (number_at w64 bytes 96)) ++ ((to_le_bytes w64 (number_at w64 bytes 104)) ++ ((to_le_bytes w64 (number_at w64 bytes 112)) ++ (unused ++ drop 4088 bytes)))))))) refl (num4 bytes 68 small (omega (arith, len)))
    (cut bytes 72 4 76 (to_le_bytes w32 (number_at w32 bytes 72)) ((to_le_bytes w32 4096) ++ ((to_le_bytes w64 (number_at w64 bytes 80)) ++ ((to_le_bytes w64 (number_at w64 bytes 88)) ++ ((to_le_bytes w64 (number_at w64 bytes 96)) ++ ((to_le_bytes w64 (number_at w64 bytes 104)) ++ ((to_le_bytes w64 (number_at w64 bytes 112)) ++ (unused ++ drop 4088 bytes))))))) refl (num4 bytes 72 small (omega (arith, len)))
    (cut bytes 76 4 80 (to_le_bytes w32 4096) ((to_le_bytes w64 (number_at w64 bytes 80)) ++ ((to_le_bytes w64 (number_at w64 bytes 88)) ++ ((to_le_bytes w64 (number_at w64 bytes 96)) ++ ((to_le_bytes w64 (number_at w64 bytes 104)) ++ ((to_le_bytes w64 (number_at w64 bytes 112)) ++ (unused ++ drop 4088 bytes)))))) refl (ap (to_le_bytes w32) (sym size) ∙ num4 bytes 76 small (omega (arith, len)))
    (cut bytes 80 8 88 (to_le_bytes w64 (number_at w64 bytes 80)) ((to_le_bytes w64 (number_at w64 bytes 88)) ++ ((to_le_bytes w64 (number_at w64 bytes 96)) ++ ((to_le_bytes w64 (number_at w64 bytes 104)) ++ ((to_le_bytes w64 (number_at w64 bytes 112)) ++ (unused ++ drop 4088 bytes))))) refl (num8 bytes 80 small (omega (arith, len)))
    (cut bytes 88 8 96 (to_le_bytes w64 (number_at w64 bytes 88)) ((to_le_bytes w64 (number_at w64 bytes 96)) ++ ((to_le_bytes w64 (number_at w64 bytes 104)) ++ ((to_le_bytes w64 (number_at w64 bytes 112)) ++ (unused ++ drop 4088 bytes)))) refl (num8 bytes 88 small (omega (arith, len)))
    (cut bytes 96 8 104 (to_le_bytes w64 (number_at w64 bytes 96)) ((to_le_bytes w64 (number_at w64 bytes 104)) ++ ((to_le_bytes w64 (number_at w64 bytes 112)) ++ (unused ++ drop 4088 bytes))) refl (num8 bytes 96 small (omega (arith, len)))
    (cut bytes 104 8 112 (to_le_bytes w64 (number_at w64 bytes 104)) ((to_le_bytes w64 (number_at w64 bytes 112)) ++ (unused ++ drop 4088 bytes)) refl (num8 bytes 104 small (omega (arith, len)))
    (cut bytes 112 8 120 (to_le_bytes w64 (number_at w64 bytes 112)) (unused ++ drop 4088 bytes) refl (num8 bytes 112 small (omega (arith, len)))
    (cut bytes 120 3968 4088 unused (drop 4088 bytes) refl (sym zeros.unused_bytes) refl)))))))))))))))

bytes_flat : (bytes : List ℕ) → length bytes ≡ 4096 → Small bytes → HasZeros bytes → number_at w32 bytes 76 ≡ 4096 → has_signature bytes ≡ true
    → bytes ≡ signature ++ (bytes_at bytes 16 16 ++ (bytes_at bytes 32 16 ++ drop 48 bytes))
bytes_flat bytes len small zeros size signed =
    cut bytes 0 16 16 signature (bytes_at bytes 16 16 ++ (bytes_at bytes 32 16 ++ drop 48 bytes)) refl (signature_part bytes signed)
    (cut bytes 16 16 32 (bytes_at bytes 16 16) (bytes_at bytes 32 16 ++ drop 48 bytes) refl refl
    (cut bytes 32 16 48 (bytes_at bytes 32 16) (drop 48 bytes) refl refl refl))

-- all bytes before the Checksum
body_part : (bytes : List ℕ) → length bytes ≡ 4096 → Small bytes → HasZeros bytes → number_at w32 bytes 76 ≡ 4096 → has_signature bytes ≡ true
    → bytes ≡ body_of (info_of bytes) ++ drop 4088 bytes
unfolding info_of layout_of
body_part bytes len small zeros size signed =
    bytes_flat bytes len small zeros size signed
    ∙ ap (λ (r : List ℕ). signature ++ (bytes_at bytes 16 16 ++ (bytes_at bytes 32 16 ++ r))) (fields_flat bytes len small zeros size)
    ∙ assoc_parts signature (bytes_at bytes 16 16) (bytes_at bytes 32 16) (to_le_bytes w32 (number_at w32 bytes 48 % 2)) (to_le_bytes w16 (number_at w16 bytes 52)) (to_le_bytes w16 (number_at w16 bytes 54)) (to_le_bytes w32 (number_at w32 bytes 56)) (to_le_bytes w32 (number_at w32 bytes 60)) (to_le_bytes w32 (number_at w32 bytes 64)) (to_le_bytes w32 (number_at w32 bytes 68)) (to_le_bytes w32 (number_at w32 bytes 72)) (to_le_bytes w32 4096) (to_le_bytes w64 (number_at w64 bytes 80)) (to_le_bytes w64 (number_at w64 bytes 88)) (to_le_bytes w64 (number_at w64 bytes 96)) (to_le_bytes w64 (number_at w64 bytes 104)) (to_le_bytes w64 (number_at w64 bytes 112)) unused (drop 4088 bytes)

sum_is : (bytes body : List ℕ) → length bytes ≡ 4096 → bytes ≡ body ++ drop 4088 bytes → has_checksum bytes ≡ true
    → number_at w64 bytes 4088 ≡ fletcher64_of (body ++ replicate 8 0)
unfolding has_checksum
sum_is bytes body len e ok =
    let body_len : length body ≡ 4088 = omega (arith, ap length e, length-append body (drop 4088 bytes), length-drop 4088 bytes, len) in
    let front : take 4088 bytes ≡ body = ap (take 4088) e ∙ take_at body (drop 4088 bytes) 4088 body_len in
    eqb-true (number_at w64 bytes 4088) (fletcher64_of (without_eight bytes 4088)) ok
    ∙ ap fletcher64_of (ap (λ (b : List ℕ). b ++ replicate 8 0 ++ drop 4096 bytes) front
    ∙ ap (λ (b : List ℕ). body ++ replicate 8 0 ++ b) (drop_all 4096 bytes (omega (arith, len))) ∙ append-nil (body ++ replicate 8 0))

one_by : (bytes parent : List ℕ) (rest : ℕ) (info : Info) → length bytes ≡ 4096 → Small bytes → HasZeros bytes → PassesAll bytes parent rest info
    → bytes ≡ spelling_of (info_of bytes)
unfolding spelling_of
one_by bytes parent rest info len small zeros ok =
    let size = (parts_of_areas bytes ok.layout_is.areas).0 in
    let body = body_part bytes len small zeros size ok.signature_is in
    let last : drop 4088 bytes ≡ to_le_bytes w64 (number_at w64 bytes 4088) =
    sym (take_all 8 (drop 4088 bytes) (omega (arith, length-drop 4088 bytes, len))) ∙ sym (num8 bytes 4088 small (omega (arith, len))) in
    body ∙ ap (λ (r : List ℕ). body_of (info_of bytes) ++ r)
    (last ∙ ap (to_le_bytes w64) (sum_is bytes (body_of (info_of bytes)) len body ok.checksum_is))

pub one_spelling : (bytes parent : List ℕ) (rest : ℕ) (r : Result Info InfoFault) → length bytes ≡ 4096 → Small bytes → r ≡ info_reading bytes parent rest
    → IfOk r (λ info. HasZeros bytes → bytes ≡ spelling_of info)
one_spelling bytes parent rest (Ok info) len small e =
    let ok = all_passed bytes parent rest info (sym e) in
    λ zeros. one_by bytes parent rest info len small zeros ok ∙ ap spelling_of ok.info_is
one_spelling bytes parent rest (Err f) len small e = tt
