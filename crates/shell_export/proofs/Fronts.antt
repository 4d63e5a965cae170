-- A text that is printed piece by piece.
use Rattle.std.proofs.Common.{◌≡◌, ℕ, zero, suc, ◌+◌, ◌≤◌, List, [], ◌++◌, length, take, drop, ◌-◌, Option, refl, sym, ap, ◌∙◌, subst, arith, append_assoc, append-nil, take-append-drop, length-append}
use Rattle.std.specs.Io.KnownBytes.{Appends}
use Rattle.std.specs.List.{flat_map, range_with_len}
use Rattle.std.proofs.KnownBytes.{Appends-trans}
use Rattle.std.proofs.Math.Seq.{take-add}
use Rattle.std.proofs.lemmas.List.{take-append-le, take_all, length-take}
use Rattle.nvd_media.specs.Images.{Keeps}
use Rattle.cut_words.specs.WordBytes.{bytes_of}
use Rattle.cut_words.proofs.Put.{bytes_of-append}
use Rattle.shell_export.specs.Printing.{AppendsAll, AppendsFront, PrintsAll, PrintsBut, PrintsFront}

-- ---- whole pieces

keeps_more : (a b c : Option (List ℕ)) (xs ys : List ℕ) → Keeps a b (λ was now. now ≡ was ++ xs) → Keeps b c (λ was now. now ≡ was ++ ys) → Keeps a c (λ was now. now ≡ was ++ (xs ++ ys))
keeps_more a b c xs ys before after = λ now is.
    let later = after now is in
    let earlier = before later.0 later.1 in
    (earlier.0, earlier.1, later.2 ∙ ap (λ (text : List ℕ). text ++ ys) earlier.2 ∙ append_assoc earlier.0 xs ys)

-- one piece behind others
pub both_all : (a b c a' b' c' : Option (List ℕ)) (xs ys : List ℕ) → AppendsAll a b a' b' xs → AppendsAll b c b' c' ys → AppendsAll a c a' c' (xs ++ ys)
both_all a b c a' b' c' xs ys before after = (Appends-trans a b c xs ys before.0 after.0, keeps_more a' b' c' xs ys before.1 after.1)

-- ---- bytes by contents

module _ (Known : List (List ℕ) → Type 0) (f : List (List ℕ) → List ℕ) (a b c a' b' c' : Option (List ℕ)) where
  -- one piece more
  pub all_more : (g h : List (List ℕ) → List ℕ) → ((contents : List (List ℕ)) → h contents ≡ f contents ++ g contents) → PrintsAll Known f a b a' b' → PrintsAll Known g b c b' c'
      → PrintsAll Known h a c a' c'
  all_more g h split (xs, before, are) (ys, after, be) =
      (xs ++ ys, both_all a b c a' b' c' xs ys before after, λ contents known. split contents ∙ (λ i. are contents known i ++ be contents known i))

  -- a front of one piece more
  pub front_more : (g h rest : List (List ℕ) → List ℕ) → ((contents : List (List ℕ)) → h contents ≡ f contents ++ (g contents ++ rest contents)) → PrintsAll Known f a b a' b' → PrintsFront Known g b c
      → PrintsFront Known h a c
  front_more g h rest split (xs, before, are) (ys, after, be) = (
    xs ++ ys,
    Appends-trans a b c xs ys before.0 after,
    (λ contents known.
        let own = be contents known in (
          own.0 ++ rest contents,
          split contents
              ∙ (λ i. are contents known i ++ (own.1 i ++ rest contents))
              ∙ ap (λ (zs : List ℕ). xs ++ zs) (append_assoc ys own.0 (rest contents))
              ∙ sym (append_assoc xs ys (own.0 ++ rest contents)),
        )),
  )

  module _ (waiting : List ℕ) where
    -- of those that wait, and one piece more, all but the last are printed
    pub but_more : (g h : List (List ℕ) → List ℕ) (left : List ℕ) → ((contents : List (List ℕ)) → h contents ≡ f contents ++ g contents) → PrintsBut Known f a b a' b' waiting
        → PrintsBut Known (λ contents. waiting ++ g contents) b c b' c' left → PrintsBut Known h a c a' c' left
    but_more g h left split (xs, before, are) (ys, after, be) = (
      xs ++ ys,
      both_all a b c a' b' c' xs ys before after,
      (λ contents known.
          split contents
          ∙ ap (λ (zs : List ℕ). zs ++ g contents) (are contents known)
          ∙ append_assoc xs waiting (g contents)
          ∙ ap (λ (zs : List ℕ). xs ++ zs) (be contents known)
          ∙ sym (append_assoc xs ys left)),
    )

    -- those that wait are printed
    pub but_all : PrintsBut Known f a b a' b' waiting → AppendsAll b c b' c' waiting → PrintsAll Known f a c a' c'
    but_all (xs, before, are) after = (xs ++ waiting, both_all a b c a' b' c' xs waiting before after, are)

    -- a front of those that wait is printed
    pub but_front : (h rest : List (List ℕ) → List ℕ) → ((contents : List (List ℕ)) → h contents ≡ f contents ++ rest contents) → PrintsBut Known f a b a' b' waiting → AppendsFront b c waiting
        → PrintsFront Known h a c
    but_front h rest split (xs, before, are) (n, part) = (
      xs ++ take n waiting,
      Appends-trans a b c xs (take n waiting) before.0 part,
      (λ contents known. (
        drop n waiting ++ rest contents,
        split contents
            ∙ ap (λ (zs : List ℕ). zs ++ rest contents) (are contents known ∙ ap (λ (zs : List ℕ). xs ++ zs) (sym (take-append-drop n waiting)) ∙ sym (append_assoc xs (take n waiting) (drop n waiting)))
            ∙ append_assoc (xs ++ take n waiting) (drop n waiting) (rest contents),
      )),
    )

-- ---- words that are known

-- a piece that was read, and printed
pub piece_all : (Known : List (List ℕ) → Type 0) (f : List (List ℕ) → List ℕ) (a b a' b' : Option (List ℕ)) (bytes : List ℕ) → ((contents : List (List ℕ)) → Known contents → f contents ≡ bytes)
    → AppendsAll a b a' b' bytes → PrintsAll Known f a b a' b'
piece_all Known f a b a' b' bytes are all = (bytes, all, are)

pub piece_front : (Known : List (List ℕ) → Type 0) (f : List (List ℕ) → List ℕ) (a b : Option (List ℕ)) (bytes : List ℕ) → ((contents : List (List ℕ)) → Known contents → f contents ≡ bytes)
    → AppendsFront a b bytes → PrintsFront Known f a b
piece_front Known f a b bytes are (n, part) = (take n bytes, part, λ contents known. (drop n bytes, are contents known ∙ sym (take-append-drop n bytes)))

-- a piece that wasn't read
pub piece_none : (Known : List (List ℕ) → Type 0) (f : List (List ℕ) → List ℕ) (a : Option (List ℕ)) → Appends a a [] → PrintsFront Known f a a
piece_none Known f a none = ([], none, λ contents known. (f contents, refl))

-- bytes that were read behind those that wait
pub read_behind : (old read rest : List ℕ) (left end : ℕ) → left ≤ length old → end ≡ left + length read → take end (take left old ++ (read ++ rest)) ≡ take left old ++ read
read_behind old read rest left end inside is =
    ap (take end) (sym (append_assoc (take left old) read rest))
    ∙ take-append-le end (take left old ++ read) rest (omega (arith, is, inside, length-append (take left old) read, length-take left old))
    ∙ take_all end (take left old ++ read) (omega (arith, is, inside, length-append (take left old) read, length-take left old))

-- ---- fronts

-- a front of bytes is one of all that are due
pub front_of : (whole bytes rest : List ℕ) (text text' : Option (List ℕ)) → whole ≡ bytes ++ rest → Appends text text' bytes → AppendsFront text text' whole
front_of whole bytes rest text text' is says = (
  length bytes,
  subst (Appends text text') (sym (ap (take (length bytes)) is ∙ take-append-le (length bytes) bytes rest (omega arith) ∙ take_all (length bytes) bytes (omega arith))) says,
)

-- ---- pieces by number

pub flat_split : (f : ℕ → List ℕ) (a n m : ℕ) → flat_map f (range_with_len a (n + m)) ≡ flat_map f (range_with_len a n) ++ flat_map f (range_with_len (a + n) m)
flat_split f a zero m =
    ap (λ (k : ℕ). flat_map f (range_with_len a k)) (let e : 0 + m ≡ m = omega arith in e)
    ∙ ap (λ (k : ℕ). flat_map f (range_with_len k m)) (let e : a ≡ a + 0 = omega arith in e)
flat_split f a (suc n) m =
    ap (λ (k : ℕ). flat_map f (range_with_len a k)) (let e : suc n + m ≡ suc (n + m) = omega arith in e)
    ∙ ap (λ (xs : List ℕ). f a ++ xs) (flat_split f (a + 1) n m)
    ∙ sym (append_assoc (f a) (flat_map f (range_with_len (a + 1) n)) (flat_map f (range_with_len (a + 1 + n) m)))
    ∙ ap (λ (k : ℕ). (f a ++ flat_map f (range_with_len (a + 1) n)) ++ flat_map f (range_with_len k m)) (let e : a + 1 + n ≡ a + suc n = omega arith in e)

-- one piece more
pub flat_more : (f : ℕ → List ℕ) (k : ℕ) → flat_map f (range_with_len 0 (k + 1)) ≡ flat_map f (range_with_len 0 k) ++ f k
flat_more f k =
    flat_split f 0 k 1
    ∙ ap (λ (i : ℕ). flat_map f (range_with_len 0 k) ++ (f i ++ [])) (let e : 0 + k ≡ k = omega arith in e)
    ∙ ap (λ (xs : List ℕ). flat_map f (range_with_len 0 k) ++ xs) (append-nil (f k))

-- a front of all pieces
pub flat_at : (f : ℕ → List ℕ) (k n : ℕ) → k ≤ n → flat_map f (range_with_len 0 n) ≡ flat_map f (range_with_len 0 k) ++ flat_map f (range_with_len k (n - k))
flat_at f k n le =
    ap (λ (i : ℕ). flat_map f (range_with_len 0 i)) (let e : n ≡ k + (n - k) = omega (arith, le) in e)
    ∙ flat_split f 0 k (n - k)
    ∙ ap (λ (i : ℕ). flat_map f (range_with_len 0 k) ++ flat_map f (range_with_len i (n - k))) (let e : 0 + k ≡ k = omega arith in e)

-- ---- the bytes of words

-- words from a place on, among all
pub bytes_at : (words : List ℕ) (at count : ℕ) → bytes_of words ≡ bytes_of (take at words) ++ (bytes_of (take count (drop at words)) ++ bytes_of (drop count (drop at words)))
bytes_at words at count =
    ap bytes_of (sym (take-append-drop at words))
    ∙ bytes_of-append (take at words) (drop at words)
    ∙ ap (λ (xs : List ℕ). bytes_of (take at words) ++ xs)
    (ap bytes_of (sym (take-append-drop count (drop at words))) ∙ bytes_of-append (take count (drop at words)) (drop count (drop at words)))

-- one part of them more
pub bytes_more : (words : List ℕ) (at count : ℕ) → bytes_of (take (at + count) words) ≡ bytes_of (take at words) ++ bytes_of (take count (drop at words))
bytes_more words at count = ap bytes_of (take-add at count words) ∙ bytes_of-append (take at words) (take count (drop at words))
