-- The bytes of a label after the writes.
use Rattle.std.proofs.Common.{◌≡◌, ℕ, List, [], ◌++◌, length, drop, replicate, refl, sym, ap, ◌∙◌, append_assoc}
use Rattle.std.specs.Int.{w16, w32, w64, to_le_bytes}
use Rattle.std.proofs.Math.ListN.{set}
use Rattle.uuid.specs.Parts.{swap_fields}
use Rattle.std.proofs.lemmas.List.{take_at, drop_at, append-nil}
use borrow.Rule.Slice.PartMut.{put_mid}
use Rattle.nvd_words.specs.Fletcher.{fletcher64_of}
use Rattle.label_codec.specs.declared.label.Label.{Label}
use Rattle.label_codec.specs.Label.{padded, fields_of, body_of, spelling_of}

-- a part of a list is replaced
put_part : (front old rest new : List ℕ) (a k : ℕ) → length front ≡ a → length old ≡ k → put_mid a k (front ++ (old ++ rest)) new ≡ front ++ (new ++ rest)
put_part front old rest new a k ea ek =
    ap (λ (f : List ℕ). f ++ (new ++ drop k (drop a (front ++ (old ++ rest))))) (take_at front (old ++ rest) a ea)
    ∙ ap (λ (r : List ℕ). front ++ (new ++ drop k r)) (drop_at front (old ++ rest) a ea)
    ∙ ap (λ (r : List ℕ). front ++ (new ++ r)) (drop_at old rest k ek)

-- Uuid and Name are written
pub unsummed : (l : Label) (uuid name fixed : List ℕ) → uuid ≡ l.uuid → name ≡ padded 64 l.name → fixed ≡ replicate 80 0 ++ (fields_of l ++ replicate 8 0) → length l.uuid ≡ 16
    → put_mid 16 64 (uuid ++ drop 16 fixed) name ≡ body_of l ++ replicate 8 0
unsummed l uuid name fixed eu en ef lu =
    ap (λ (f : List ℕ). put_mid 16 64 (uuid ++ drop 16 f) name) ef
    ∙ put_part uuid (replicate 64 0) (fields_of l ++ replicate 8 0) name 16 64 (ap length eu ∙ lu) refl
    ∙ ap (λ (u : List ℕ). u ++ (name ++ (fields_of l ++ replicate 8 0))) eu
    ∙ ap (λ (n : List ℕ). l.uuid ++ (n ++ (fields_of l ++ replicate 8 0))) en
    ∙ ap (λ (r : List ℕ). l.uuid ++ r) (sym (append_assoc (padded 64 l.name) (fields_of l) (replicate 8 0)))
    ∙ sym (append_assoc l.uuid (padded 64 l.name ++ fields_of l) (replicate 8 0))

-- the Checksum is written
pub written : (l : Label) (uuid name fixed le : List ℕ) (sum : ℕ) → uuid ≡ l.uuid → name ≡ padded 64 l.name → fixed ≡ replicate 80 0 ++ (fields_of l ++ replicate 8 0)
    → length l.uuid ≡ 16 → length (body_of l) ≡ 248 → sum ≡ fletcher64_of (put_mid 16 64 (uuid ++ drop 16 fixed) name) → le ≡ to_le_bytes w64 sum
    → put_mid 248 8 (put_mid 16 64 (uuid ++ drop 16 fixed) name) le ≡ spelling_of l
unfolding spelling_of
written l uuid name fixed le sum eu en ef lu lb es el =
    let whole = unsummed l uuid name fixed eu en ef lu in
    ap (λ (xs : List ℕ). put_mid 248 8 xs le) whole
    ∙ put_part (body_of l) (replicate 8 0) [] le 248 8 lb refl ∙ ap (λ (r : List ℕ). body_of l ++ r) (append-nil le)
    ∙ ap (λ (r : List ℕ). body_of l ++ r) (el ∙ ap (to_le_bytes w64) (es ∙ ap fletcher64_of whole))

-- the fields from Flags on are written
pub fixed : (l : Label) (flags count position cookie lba dpa raw slot kind abstraction spa : List ℕ)
    → flags ≡ to_le_bytes w32 l.flags → count ≡ to_le_bytes w16 l.count → position ≡ to_le_bytes w16 l.position → cookie ≡ to_le_bytes w64 l.cookie
    → lba ≡ to_le_bytes w64 l.lba → dpa ≡ to_le_bytes w64 l.dpa → raw ≡ to_le_bytes w64 l.raw → slot ≡ to_le_bytes w32 l.slot
    → kind ≡ swap_fields l.kind → abstraction ≡ swap_fields l.abstraction → spa ≡ to_le_bytes w64 l.spa_cookie
    → put_mid 160 8 (put_mid 144 16 (put_mid 128 16 (set (put_mid 120 4 (put_mid 112 8 (put_mid 104 8 (put_mid 96 8 (put_mid 88 8 (put_mid 86 2 (put_mid 84 2
    (put_mid 80 4 (replicate 256 0) flags) count) position) cookie) lba) dpa) raw) slot) 124 l.align) kind) abstraction) spa
    ≡ replicate 80 0 ++ (fields_of l ++ replicate 8 0)
fixed l flags count position cookie lba dpa raw slot kind abstraction spa ef ec ep ek el ed er es et ea eo = λ i.
    put_mid 160 8 (put_mid 144 16 (put_mid 128 16 (set (put_mid 120 4 (put_mid 112 8 (put_mid 104 8 (put_mid 96 8 (put_mid 88 8 (put_mid 86 2 (put_mid 84 2
    (put_mid 80 4 (replicate 256 0) (ef i)) (ec i)) (ep i)) (ek i)) (el i)) (ed i)) (er i)) (es i)) 124 l.align) (et i)) (ea i)) (eo i)
