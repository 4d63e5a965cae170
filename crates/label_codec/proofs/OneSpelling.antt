-- Only the canonical encoding encodes a label and is clean.
use Rattle.std.proofs.Common.{◌≡◌, ℕ, ◌+◌, ◌≤◌, List, [], ◌∷◌, ◌++◌, length, take, drop, replicate, refl, sym, ap, ◌∙◌, arith, append_assoc}
use Rattle.std.specs.Int.{w16, w32, w64, to_le_bytes}
use Rattle.std.proofs.lemmas.List.{take_at, take_min, drop_all, length-append, length-take, length-drop, take-append-drop, append-nil}
use Rattle.uuid.specs.Parts.{swap_fields}
use Rattle.nvd_words.specs.Bytes.{number_at, AreBytes}
use Rattle.nvd_words.specs.Fletcher.{fletcher64_of}
use Rattle.nvd_words.proofs.GuidOrder.{swap_twice}
use Rattle.nvd_words.proofs.ByteLists.{next_part, next_byte, next_two, next_four, next_eight}
use Rattle.label_codec.specs.declared.label.Label.{Label}
use Rattle.label_codec.specs.Name.{text_in}
use Rattle.label_codec.specs.Label.{bytes_at, padded, fields_of, body_of, spelling_of}
use Rattle.label_codec.specs.Grammar.{StandsFor}
use Rattle.label_codec.specs.Laws.{IsClean, SpellingIsTheOne}

-- the Name field is the name and zeros
name_field : (bytes : List ℕ) (number : ℕ) (l : Label) → StandsFor bytes number l → IsClean bytes → take 64 (drop 16 bytes) ≡ padded 64 l.name
name_field bytes number l ok clean =
    let field : List ℕ = bytes_at bytes 16 64 in
    sym (take-append-drop (length (text_in field)) field) ∙ ap (λ (t : List ℕ). t ++ drop (length (text_in field)) field) (front_back field)
    ∙ ap (λ (z : List ℕ). text_in field ++ z) clean.name ∙ ap (λ (n : List ℕ). padded 64 n) (sym ok.name)
  where
    front_back : (field : List ℕ) → take (length (text_in field)) field ≡ text_in field
    front_back field = rw length-take (take_min _ _)

guid_field : (bytes guid : List ℕ) (at : ℕ) → at + 16 ≤ length bytes → guid ≡ swap_fields (bytes_at bytes at 16) → take 16 (drop at bytes) ≡ swap_fields guid
guid_field bytes guid at within is = sym (swap_twice (take 16 (drop at bytes)) (length-take 16 (drop at bytes) ∙ omega (arith, length-drop at bytes, within))) ∙ ap swap_fields (sym is)

-- the bytes from 80 up to the Checksum
fields_is : (bytes : List ℕ) (number : ℕ) (l : Label) → AreBytes bytes → length bytes ≡ 256 → StandsFor bytes number l → IsClean bytes → drop 80 bytes ≡ fields_of l ++ drop 248 bytes
fields_is bytes number l all len ok clean =
    next_four bytes 80 84 l.flags all refl (omega (arith, len)) (sym ok.flags)
    ∙ ap (λ (r : List ℕ). to_le_bytes w32 l.flags ++ r) (next_two bytes 84 86 l.count all refl (omega (arith, len)) (sym ok.count)
    ∙ ap (λ (r : List ℕ). to_le_bytes w16 l.count ++ r) (next_two bytes 86 88 l.position all refl (omega (arith, len)) (sym ok.position)
    ∙ ap (λ (r : List ℕ). to_le_bytes w16 l.position ++ r) (next_eight bytes 88 96 l.cookie all refl (omega (arith, len)) (sym ok.cookie)
    ∙ ap (λ (r : List ℕ). to_le_bytes w64 l.cookie ++ r) (next_eight bytes 96 104 l.lba all refl (omega (arith, len)) (sym ok.lba)
    ∙ ap (λ (r : List ℕ). to_le_bytes w64 l.lba ++ r) (next_eight bytes 104 112 l.dpa all refl (omega (arith, len)) (sym ok.dpa)
    ∙ ap (λ (r : List ℕ). to_le_bytes w64 l.dpa ++ r) (next_eight bytes 112 120 l.raw all refl (omega (arith, len)) (sym ok.raw)
    ∙ ap (λ (r : List ℕ). to_le_bytes w64 l.raw ++ r) (next_four bytes 120 124 l.slot all refl (omega (arith, len)) (sym ok.slot)
    ∙ ap (λ (r : List ℕ). to_le_bytes w32 l.slot ++ r) (next_byte bytes 124 125 l.align refl (omega (arith, len)) (sym ok.align)
    ∙ ap (λ (r : List ℕ). l.align ∷ r) (next_part bytes (replicate 3 0) 125 3 128 refl clean.after_align
    ∙ ap (λ (r : List ℕ). replicate 3 0 ++ r) (next_part bytes (swap_fields l.kind) 128 16 144 refl (guid_field bytes l.kind 128 (omega (arith, len)) ok.kind)
    ∙ ap (λ (r : List ℕ). swap_fields l.kind ++ r) (next_part bytes (swap_fields l.abstraction) 144 16 160 refl (guid_field bytes l.abstraction 144 (omega (arith, len)) ok.abstraction)
    ∙ ap (λ (r : List ℕ). swap_fields l.abstraction ++ r) (next_eight bytes 160 168 l.spa_cookie all refl (omega (arith, len)) (sym ok.spa_cookie)
    ∙ ap (λ (r : List ℕ). to_le_bytes w64 l.spa_cookie ++ r) (next_part bytes (replicate 80 0) 168 80 248 refl clean.after_cookie)))))))))))))

body_first : (bytes : List ℕ) (number : ℕ) (l : Label) → AreBytes bytes → length bytes ≡ 256 → StandsFor bytes number l → IsClean bytes → bytes ≡ body_of l ++ drop 248 bytes
body_first bytes number l all len ok clean =
    next_part bytes l.uuid 0 16 16 refl (sym ok.uuid)
    ∙ ap (λ (r : List ℕ). l.uuid ++ r) (next_part bytes (padded 64 l.name) 16 64 80 refl (name_field bytes number l ok clean)
    ∙ ap (λ (r : List ℕ). padded 64 l.name ++ r) (fields_is bytes number l all len ok clean))
    ∙ ap (λ (r : List ℕ). l.uuid ++ r) (sym (append_assoc (padded 64 l.name) (fields_of l) (drop 248 bytes)))
    ∙ sym (append_assoc l.uuid (padded 64 l.name ++ fields_of l) (drop 248 bytes))

pub one_spelling : SpellingIsTheOne
unfolding spelling_of
one_spelling bytes number l all len ok clean =
    let body = body_first bytes number l all len ok clean in
    let body_len : length (body_of l) ≡ 248 = omega (arith, ap length body, length-append (body_of l) (drop 248 bytes), length-drop 248 bytes, len) in
    let front : take 248 bytes ≡ body_of l = ap (take 248) body ∙ take_at (body_of l) (drop 248 bytes) 248 body_len in
    let none : drop 256 bytes ≡ [] = drop_all 256 bytes (omega (arith, len)) in
    let sum : number_at w64 bytes 248 ≡ fletcher64_of (body_of l ++ replicate 8 0) =
    ok.sum ∙ ap (λ (h : List ℕ). fletcher64_of (h ++ replicate 8 0 ++ drop 256 bytes)) front
    ∙ ap (λ (t : List ℕ). fletcher64_of (body_of l ++ replicate 8 0 ++ t)) none ∙ ap fletcher64_of (append-nil (body_of l ++ replicate 8 0)) in
    body ∙ ap (λ (r : List ℕ). body_of l ++ r) (next_eight bytes 248 256 (fletcher64_of (body_of l ++ replicate 8 0)) all refl (omega (arith, len)) sum
    ∙ ap (λ (r : List ℕ). to_le_bytes w64 (fletcher64_of (body_of l ++ replicate 8 0)) ++ r) none ∙ append-nil (to_le_bytes w64 (fletcher64_of (body_of l ++ replicate 8 0))))
