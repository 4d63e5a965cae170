-- The canonical encoding of a label that can be written is read as that label.
use Rattle.std.proofs.Common.{◌≡◌, ◌≢◌, ℕ, zero, suc, ◌+◌, ◌-◌, ◌<◌, ◌≤◌, true, false, not, eqb, List, [], ◌∷◌, ◌++◌, length, take, drop, get_or, replicate, Ok, refl, sym, ap, ◌∙◌, subst, arith, append_assoc}
use Rattle.std.specs.List.{prefix_len}
use Rattle.std.specs.Int.{Width, byte_len, w16, w32, w64, to_le_bytes, from_le_bytes}
use Rattle.std.proofs.lemmas.Bool.{eq-eqb, ne_eqb}
use Rattle.std.proofs.lemmas.Nat.{from_le_bytes-to_le_bytes_2, from_le_bytes-to_le_bytes_4, from_le_bytes-to_le_bytes_8}
use Rattle.std.proofs.lemmas.List.{length-append, length-replicate, get_or-drop, take_at, drop_at, drop-drop, append-nil, drop_all}
use Rattle.uuid.specs.Parts.{swap_fields}
use Rattle.nvd_words.specs.Bytes.{number_at, AreBytes}
use Rattle.nvd_words.proofs.GuidOrder.{swap_twice}
use Rattle.nvd_words.proofs.ByteLists.{no_bytes, one_byte, both_bytes, zero_bytes, eight_bytes, four_bytes, two_bytes}
use Rattle.nvd_words.specs.Checks.{first_fault}
use Rattle.nvd_words.specs.Fletcher.{fletcher64_of, without_eight}
use Rattle.label_codec.specs.declared.label.Label.{Label}
use Rattle.label_codec.specs.Name.{text_in}
use Rattle.label_codec.specs.Writable.{IsWritable}
use Rattle.label_codec.specs.Label.{label_of, label_reading, has_checksum, bytes_at, padded, fields_of, body_of, spelling_of}

abbrev pub sum_of : Label → ℕ
sum_of l = fletcher64_of (body_of l ++ replicate 8 0)

abbrev pub front_of : Label → List ℕ
front_of l = l.uuid ++ padded 64 l.name

-- the bytes from 80 on, with the Checksum
abbrev pub rest_of : Label → List ℕ
rest_of l = fields_of l ++ to_le_bytes w64 (sum_of l)

pub length_padded : (name : List ℕ) → length name ≤ 64 → length (padded 64 name) ≡ 64
length_padded name le = length-append name (replicate (64 - length name) 0) ∙ omega (arith, length-replicate {A = ℕ} (64 - length name) 0)

pub length_front : (l : Label) → IsWritable l → length (front_of l) ≡ 80
length_front l ok = length-append l.uuid (padded 64 l.name) ∙ omega (arith, ok.bytes.uuid_len, length_padded l.name ok.bytes.name_len)

pub body_is : (l : Label) → body_of l ≡ front_of l ++ fields_of l
body_is l = sym (append_assoc l.uuid (padded 64 l.name) (fields_of l))

pub length_body : (l : Label) → IsWritable l → length (body_of l) ≡ 248
length_body l ok = ap length (body_is l) ∙ length-append (front_of l) (fields_of l) ∙ omega (arith, length_front l ok)

pub spelling_is : (l : Label) → spelling_of l ≡ front_of l ++ (fields_of l ++ to_le_bytes w64 (sum_of l))
unfolding spelling_of
spelling_is l = ap (λ (b : List ℕ). b ++ to_le_bytes w64 (sum_of l)) (body_is l) ∙ append_assoc (front_of l) (fields_of l) (to_le_bytes w64 (sum_of l))

pub drop_past : (l : Label) (k : ℕ) → IsWritable l → drop (80 + k) (spelling_of l) ≡ drop k (fields_of l ++ to_le_bytes w64 (sum_of l))
drop_past l k ok =
    ap (drop (80 + k)) (spelling_is l) ∙ sym (drop-drop k 80 (front_of l ++ (fields_of l ++ to_le_bytes w64 (sum_of l))))
    ∙ ap (drop k) (drop_at (front_of l) (fields_of l ++ to_le_bytes w64 (sum_of l)) 80 (length_front l ok))

past : (w : Width) (l : Label) (k n : ℕ) → IsWritable l → n ≡ 80 + k → number_at w (spelling_of l) n ≡ number_at w (fields_of l ++ to_le_bytes w64 (sum_of l)) k
unfolding number_at
past w l k n ok e = ap (λ (m : ℕ). from_le_bytes w (take (byte_len w) (drop m (spelling_of l)))) e ∙ ap (λ (b : List ℕ). from_le_bytes w (take (byte_len w) b)) (drop_past l k ok)

flags_in : (l : Label) → IsWritable l → number_at w32 (fields_of l ++ to_le_bytes w64 (sum_of l)) 0 ≡ l.flags
unfolding number_at
flags_in l ok = from_le_bytes-to_le_bytes_4 l.flags ok.numbers.flags

flags_at : (l : Label) → IsWritable l → number_at w32 (spelling_of l) 80 ≡ l.flags
flags_at l ok = past w32 l 0 80 ok refl ∙ flags_in l ok

count_in : (l : Label) → IsWritable l → number_at w16 (fields_of l ++ to_le_bytes w64 (sum_of l)) 4 ≡ l.count
unfolding number_at
count_in l ok = from_le_bytes-to_le_bytes_2 l.count ok.numbers.count

count_at : (l : Label) → IsWritable l → number_at w16 (spelling_of l) 84 ≡ l.count
count_at l ok = past w16 l 4 84 ok refl ∙ count_in l ok

position_in : (l : Label) → IsWritable l → number_at w16 (fields_of l ++ to_le_bytes w64 (sum_of l)) 6 ≡ l.position
unfolding number_at
position_in l ok = from_le_bytes-to_le_bytes_2 l.position ok.numbers.position

position_at : (l : Label) → IsWritable l → number_at w16 (spelling_of l) 86 ≡ l.position
position_at l ok = past w16 l 6 86 ok refl ∙ position_in l ok

cookie_in : (l : Label) → IsWritable l → number_at w64 (fields_of l ++ to_le_bytes w64 (sum_of l)) 8 ≡ l.cookie
unfolding number_at
cookie_in l ok = from_le_bytes-to_le_bytes_8 l.cookie ok.numbers.cookie

cookie_at : (l : Label) → IsWritable l → number_at w64 (spelling_of l) 88 ≡ l.cookie
cookie_at l ok = past w64 l 8 88 ok refl ∙ cookie_in l ok

lba_in : (l : Label) → IsWritable l → number_at w64 (fields_of l ++ to_le_bytes w64 (sum_of l)) 16 ≡ l.lba
unfolding number_at
lba_in l ok = from_le_bytes-to_le_bytes_8 l.lba ok.numbers.lba

lba_at : (l : Label) → IsWritable l → number_at w64 (spelling_of l) 96 ≡ l.lba
lba_at l ok = past w64 l 16 96 ok refl ∙ lba_in l ok

dpa_in : (l : Label) → IsWritable l → number_at w64 (fields_of l ++ to_le_bytes w64 (sum_of l)) 24 ≡ l.dpa
unfolding number_at
dpa_in l ok = from_le_bytes-to_le_bytes_8 l.dpa ok.numbers.dpa

dpa_at : (l : Label) → IsWritable l → number_at w64 (spelling_of l) 104 ≡ l.dpa
dpa_at l ok = past w64 l 24 104 ok refl ∙ dpa_in l ok

raw_in : (l : Label) → IsWritable l → number_at w64 (fields_of l ++ to_le_bytes w64 (sum_of l)) 32 ≡ l.raw
unfolding number_at
raw_in l ok = from_le_bytes-to_le_bytes_8 l.raw ok.numbers.raw

raw_at : (l : Label) → IsWritable l → number_at w64 (spelling_of l) 112 ≡ l.raw
raw_at l ok = past w64 l 32 112 ok refl ∙ raw_in l ok

slot_in : (l : Label) → IsWritable l → number_at w32 (fields_of l ++ to_le_bytes w64 (sum_of l)) 40 ≡ l.slot
unfolding number_at
slot_in l ok = from_le_bytes-to_le_bytes_4 l.slot ok.numbers.slot

slot_at : (l : Label) → IsWritable l → number_at w32 (spelling_of l) 120 ≡ l.slot
slot_at l ok = past w32 l 40 120 ok refl ∙ slot_in l ok

spa_in : (l : Label) → IsWritable l → number_at w64 (fields_of l ++ to_le_bytes w64 (sum_of l)) 80 ≡ l.spa_cookie
unfolding number_at
spa_in l ok = from_le_bytes-to_le_bytes_8 l.spa_cookie ok.numbers.spa_cookie

spa_at : (l : Label) → IsWritable l → number_at w64 (spelling_of l) 160 ≡ l.spa_cookie
spa_at l ok = past w64 l 80 160 ok refl ∙ spa_in l ok

check_in : (l : Label) → IsWritable l → number_at w64 (fields_of l ++ to_le_bytes w64 (sum_of l)) 168 ≡ sum_of l
unfolding number_at
check_in l ok = from_le_bytes-to_le_bytes_8 (sum_of l) (omega arith)

check_at : (l : Label) → IsWritable l → number_at w64 (spelling_of l) 248 ≡ sum_of l
check_at l ok = past w64 l 168 248 ok refl ∙ check_in l ok

align_at : (l : Label) → IsWritable l → get_or (spelling_of l) 124 0 ≡ l.align
align_at l ok = sym (get_or-drop 80 (spelling_of l) 44 0) ∙ ap (λ (b : List ℕ). get_or b 44 0) (drop_past l 0 ok)

kind_at : (l : Label) → IsWritable l → swap_fields (bytes_at (spelling_of l) 128 16) ≡ l.kind
kind_at l ok = ap (λ (b : List ℕ). swap_fields (take 16 b)) (drop_past l 48 ok) ∙ swap_twice l.kind ok.bytes.kind_len

abstraction_at : (l : Label) → IsWritable l → swap_fields (bytes_at (spelling_of l) 144 16) ≡ l.abstraction
abstraction_at l ok = ap (λ (b : List ℕ). swap_fields (take 16 b)) (drop_past l 64 ok) ∙ swap_twice l.abstraction ok.bytes.abstraction_len

uuid_at : (l : Label) → IsWritable l → bytes_at (spelling_of l) 0 16 ≡ l.uuid
uuid_at l ok =
    ap (take 16) (spelling_is l ∙ append_assoc l.uuid (padded 64 l.name) (fields_of l ++ to_le_bytes w64 (sum_of l)))
    ∙ take_at l.uuid (padded 64 l.name ++ (fields_of l ++ to_le_bytes w64 (sum_of l))) 16 ok.bytes.uuid_len

text_zeros : (n : ℕ) → text_in (replicate n 0) ≡ []
text_zeros zero = refl
text_zeros (suc n) = refl

one_more : (n : ℕ) → 1 + n ≡ suc n
one_more n = omega arith

front_more : (n x : ℕ) (xs : List ℕ) → take (1 + n) (x ∷ xs) ≡ x ∷ take n xs
front_more n x xs = ap (λ (k : ℕ). take k (x ∷ xs)) (one_more n)

text_back : (name zeros : List ℕ) → ((i : ℕ) → i < length name → get_or name i 0 ≢ 0) → text_in zeros ≡ [] → text_in (name ++ zeros) ≡ name
text_back [] zeros some none = none
text_back (x ∷ name) zeros some none =
    let test : eqb x 0 ≡ false = ne_eqb x 0 (λ e. some zero (omega arith) e) in
    rw test (front_more (prefix_len (λ b. not (eqb b 0)) (name ++ zeros)) x (name ++ zeros) ∙ ap (λ (rest : List ℕ). x ∷ rest) (text_back name zeros (λ i lt. some (suc i) (omega arith)) none))

pub name_at : (l : Label) → IsWritable l → text_in (bytes_at (spelling_of l) 16 64) ≡ l.name
name_at l ok =
    ap (λ (b : List ℕ). text_in (take 64 (drop 16 b))) (spelling_is l ∙ append_assoc l.uuid (padded 64 l.name) (fields_of l ++ to_le_bytes w64 (sum_of l)))
    ∙ ap (λ (b : List ℕ). text_in (take 64 b)) (drop_at l.uuid (padded 64 l.name ++ (fields_of l ++ to_le_bytes w64 (sum_of l))) 16 ok.bytes.uuid_len)
    ∙ ap text_in (take_at (padded 64 l.name) (fields_of l ++ to_le_bytes w64 (sum_of l)) 64 (length_padded l.name ok.bytes.name_len))
    ∙ text_back l.name (replicate (64 - length l.name) 0) ok.sound.no_zero (text_zeros (64 - length l.name))

pub label_is : (l : Label) → IsWritable l → label_of (spelling_of l) ≡ l
unfolding label_of
label_is l ok =
    let p0 = uuid_at l ok in let p1 = name_at l ok in let p2 = flags_at l ok in let p3 = count_at l ok in let p4 = position_at l ok in let p5 = cookie_at l ok in
    let p6 = lba_at l ok in let p7 = dpa_at l ok in let p8 = raw_at l ok in let p9 = slot_at l ok in let p10 = align_at l ok in let p11 = kind_at l ok in
    let p12 = abstraction_at l ok in let p13 = spa_at l ok in
    λ i. record { uuid = p0 i; name = p1 i; flags = p2 i; count = p3 i; position = p4 i; cookie = p5 i; lba = p6 i; dpa = p7 i; raw = p8 i; slot = p9 i; align = p10 i; kind = p11 i; abstraction = p12 i; spa_cookie = p13 i }

without_is : (l : Label) → IsWritable l → without_eight (spelling_of l) 248 ≡ body_of l ++ replicate 8 0
unfolding spelling_of
without_is l ok =
    ap (λ (b : List ℕ). b ++ replicate 8 0 ++ drop 256 (spelling_of l)) (take_at (body_of l) (to_le_bytes w64 (sum_of l)) 248 (length_body l ok))
    ∙ ap (λ (b : List ℕ). body_of l ++ replicate 8 0 ++ b) (drop_all 256 (spelling_of l) (omega (arith, length-append (body_of l) (to_le_bytes w64 (sum_of l)), length_body l ok)))
    ∙ append-nil (body_of l ++ replicate 8 0)

summed : (l : Label) → IsWritable l → has_checksum (spelling_of l) ≡ true
unfolding has_checksum
summed l ok = eq-eqb (number_at w64 (spelling_of l) 248) (fletcher64_of (without_eight (spelling_of l) 248)) (check_at l ok ∙ sym (ap fletcher64_of (without_is l ok)))

-- the canonical encoding is read as the label
pub spelled : (l : Label) → IsWritable l → label_reading (spelling_of l) l.slot ≡ Ok l
unfolding first_fault
spelled l ok =
    rw (summed l ok, slot_at l ok, eq-eqb l.slot l.slot refl, dpa_at l ok, raw_at l ok, ok.sound.sizes) (ap Ok (label_is l ok))

pub length_spelling : (l : Label) → IsWritable l → length (spelling_of l) ≡ 256
length_spelling l ok = ap length (spelling_is l) ∙ length-append (front_of l) (fields_of l ++ to_le_bytes w64 (sum_of l)) ∙ omega (arith, length_front l ok)

-- ---- its bytes are bytes

-- each byte of an identifier in GUID order is one of its bytes
pub swap_bytes : (xs : List ℕ) → AreBytes xs → AreBytes (swap_fields xs)
swap_bytes xs all =
    one_byte _ _ (all.each 3) (one_byte _ _ (all.each 2) (one_byte _ _ (all.each 1) (one_byte _ _ (all.each 0)
    (one_byte _ _ (all.each 5) (one_byte _ _ (all.each 4) (one_byte _ _ (all.each 7) (one_byte _ _ (all.each 6)
    (one_byte _ _ (all.each 8) (one_byte _ _ (all.each 9) (one_byte _ _ (all.each 10) (one_byte _ _ (all.each 11)
    (one_byte _ _ (all.each 12) (one_byte _ _ (all.each 13) (one_byte _ _ (all.each 14) (one_byte _ _ (all.each 15) no_bytes)))))))))))))))

fields_bytes : (l : Label) → IsWritable l → AreBytes (fields_of l)
fields_bytes l ok =
    both_bytes (to_le_bytes w32 l.flags) _ (four_bytes l.flags) (both_bytes (to_le_bytes w16 l.count) _ (two_bytes l.count) (both_bytes (to_le_bytes w16 l.position) _ (two_bytes l.position)
    (both_bytes (to_le_bytes w64 l.cookie) _ (eight_bytes l.cookie) (both_bytes (to_le_bytes w64 l.lba) _ (eight_bytes l.lba) (both_bytes (to_le_bytes w64 l.dpa) _ (eight_bytes l.dpa)
    (both_bytes (to_le_bytes w64 l.raw) _ (eight_bytes l.raw) (both_bytes (to_le_bytes w32 l.slot) _ (four_bytes l.slot) (one_byte l.align _ ok.numbers.align
    (both_bytes (replicate 3 0) _ (zero_bytes 3) (both_bytes (swap_fields l.kind) _ (swap_bytes l.kind ok.bytes.kind) (both_bytes (swap_fields l.abstraction) _ (swap_bytes l.abstraction ok.bytes.abstraction)
    (both_bytes (to_le_bytes w64 l.spa_cookie) (replicate 80 0) (eight_bytes l.spa_cookie) (zero_bytes 80)))))))))))))

pub bytes_spelling : (l : Label) → IsWritable l → AreBytes (spelling_of l)
bytes_spelling l ok =
    subst AreBytes (sym (spelling_is l))
    (both_bytes (front_of l) (fields_of l ++ to_le_bytes w64 (sum_of l))
    (both_bytes l.uuid (padded 64 l.name) ok.bytes.uuid (both_bytes l.name (replicate (64 - length l.name) 0) ok.bytes.name (zero_bytes (64 - length l.name))))
    (both_bytes (fields_of l) (to_le_bytes w64 (sum_of l)) (fields_bytes l ok) (eight_bytes (sum_of l))))
