-- The encoding of an info block.
use Rattle.std.proofs.Common.{◌≡◌, ℕ, zero, suc, ◌+◌, List, ◌∷◌, ◌++◌, length, take, drop, replicate, sym, ap, ◌∙◌, arith, append_assoc}
use Rattle.std.specs.Int.{w16, w32, w64, to_le_bytes}
use Rattle.std.proofs.lemmas.List.{take_all, length-append, length-replicate, length-take, take_at, take-append-drop}
use Rattle.nvd_words.specs.Fletcher.{fletcher64_of}
use Rattle.arena_layout.specs.declared.info.Info.{Info}
use Rattle.arena_layout.specs.Info.{signature}
use Rattle.arena_layout.specs.Spelling.{counts_of, places_of, fields_of, unused, body_of, spelling_of}

-- ---- what was written

abbrev pub names_of : Info → List ℕ
names_of info =
    signature ++ (info.uuid ++ (info.parent ++ (to_le_bytes w32 info.flags ++ (to_le_bytes w16 info.major ++ to_le_bytes w16 info.minor))))

-- the first 120 bytes
abbrev pub head_of : Info → List ℕ
head_of info = signature ++ (info.uuid ++ (info.parent ++ fields_of info))

assoc_head : (s u p f a i c l : List ℕ) → (s ++ (u ++ (p ++ (f ++ (a ++ i)))) ++ c) ++ l ≡ s ++ (u ++ (p ++ (f ++ (a ++ (i ++ (c ++ l))))))
assoc_head s u p f a i c l = simp append_assoc

pub head_is : (info : Info) → (names_of info ++ counts_of info.layout) ++ places_of info.next info.layout ≡ head_of info
head_is info =
    assoc_head signature info.uuid info.parent (to_le_bytes w32 info.flags) (to_le_bytes w16 info.major) (to_le_bytes w16 info.minor) (counts_of info.layout) (places_of info.next info.layout)

assoc_body : (s u p f w : List ℕ) → s ++ (u ++ (p ++ (f ++ w))) ≡ (s ++ (u ++ (p ++ f))) ++ w
assoc_body s u p f w = simp append_assoc

pub body_is : (info : Info) → body_of info ≡ head_of info ++ unused
body_is info = assoc_body signature info.uuid info.parent (fields_of info) unused

replicate-append : (m n : ℕ) → replicate {A = ℕ} (m + n) 0 ≡ replicate m 0 ++ replicate n 0
replicate-append zero n = ap (λ (k : ℕ). replicate {A = ℕ} k 0) (omega arith)
replicate-append (suc m) n = ap (λ (k : ℕ). replicate {A = ℕ} k 0) (let e : suc m + n ≡ suc (m + n) = omega arith in e) ∙ ap (λ (l : List ℕ). 0 ∷ l) (replicate-append m n)

zeros_are : replicate {A = ℕ} 3976 0 ≡ unused ++ replicate 8 0
unfolding unused
zeros_are = replicate-append 3968 8

pub length_unused : length unused ≡ 3968
unfolding unused
length_unused = length-replicate {A = ℕ} 3968 0

-- the bytes before the checksum is written
before_sum : (x : List ℕ) (info : Info) → take 120 x ≡ head_of info → drop 120 x ≡ replicate 3976 0 → x ≡ body_of info ++ replicate 8 0
before_sum x info front back =
    sym (take-append-drop 120 x) ∙ ap (λ (l : List ℕ). l ++ drop 120 x) front ∙ ap (λ (l : List ℕ). head_of info ++ l) (back ∙ zeros_are)
    ∙ sym (append_assoc (head_of info) unused (replicate 8 0)) ∙ ap (λ (l : List ℕ). l ++ replicate 8 0) (sym (body_is info))

length_head : (x : List ℕ) (info : Info) → length x ≡ 4096 → take 120 x ≡ head_of info → length (head_of info) ≡ 120
length_head x info len front = sym (ap length front) ∙ omega (arith, length-take 120 x, len)

pub length_body_by : (info : Info) → length (head_of info) ≡ 120 → length (body_of info) ≡ 4088
length_body_by info len = ap length (body_is info) ∙ omega (arith, length-append (head_of info) unused, len, length_unused)

-- the bytes with the checksum
pub spelled_by : (x y : List ℕ) (info : Info) (sum : ℕ) → length x ≡ 4096 → length y ≡ 4096 → take 120 x ≡ head_of info → drop 120 x ≡ replicate 3976 0
    → sum ≡ fletcher64_of x → take 4096 y ≡ take 4088 x ++ to_le_bytes w64 sum → y ≡ spelling_of info
unfolding spelling_of
spelled_by x y info sum len len' front back is put =
    let all : x ≡ body_of info ++ replicate 8 0 = before_sum x info front back in
    let whole : take 4096 y ≡ y = take_all 4096 y (omega (arith, len')) in
    sym whole ∙ put
    ∙ ap (λ (l : List ℕ). take 4088 l ++ to_le_bytes w64 sum) all
    ∙ ap (λ (l : List ℕ). l ++ to_le_bytes w64 sum) (take_at (body_of info) (replicate 8 0) 4088 (length_body_by info (length_head x info len front)))
    ∙ ap (λ (n : ℕ). body_of info ++ to_le_bytes w64 n) (is ∙ ap fletcher64_of all)
