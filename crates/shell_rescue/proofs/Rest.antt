-- A text that is printed piece by piece, by the bytes that are still to be read.
use Rattle.std.proofs.Common.{◌≡◌, ℕ, List, [], ◌++◌, Option, take, drop, refl, sym, ap, ◌∙◌, append_assoc, append-nil, take-append-drop}
use Rattle.std.proofs.KnownBytes.{Appends-nil, Appends-trans}
use Rattle.shell_export.specs.Printing.{AppendsAll, AppendsFront, PrintsAll, PrintsBut, PrintsFront}
use Rattle.shell_export.proofs.Fronts.{both_all}

-- The text has bytes more. Those that are due are these, then the ones that wait, and then the rest.
abbrev pub PrintsTo : (List (List ℕ) → Type 0) → (List (List ℕ) → List ℕ) → (List (List ℕ) → List ℕ) → Option (List ℕ) → Option (List ℕ) → Option (List ℕ) → Option (List ℕ) → List ℕ → Type 0
PrintsTo Known due rest text text' kept kept' waiting =
    (bytes : List ℕ) × AppendsAll text text' kept kept' bytes × ((contents : List (List ℕ)) → Known contents → due contents ≡ bytes ++ (waiting ++ rest contents))

-- nothing more is printed yet, and all that is due is the rest
pub to_begin : (Known : List (List ℕ) → Type 0) (rest : List (List ℕ) → List ℕ) (text kept : Option (List ℕ)) (waiting : List ℕ) → PrintsTo Known (λ contents. waiting ++ rest contents) rest text text kept kept waiting
to_begin Known rest text kept waiting = ([], (Appends-nil text, λ now is. (now, is, sym (append-nil now))), λ contents known. refl)

module _ (Known : List (List ℕ) → Type 0) (due rest : List (List ℕ) → List ℕ) (a b c a' b' c' : Option (List ℕ)) (waiting : List ℕ) where
  -- one piece more, of which the last bytes wait
  pub to_more : (g rest' : List (List ℕ) → List ℕ) (left : List ℕ) → ((contents : List (List ℕ)) → rest contents ≡ g contents ++ rest' contents) → PrintsTo Known due rest a b a' b' waiting
      → PrintsBut Known (λ contents. waiting ++ g contents) b c b' c' left → PrintsTo Known due rest' a c a' c' left
  to_more g rest' left split (xs, before, are) (ys, after, be) = (
    xs ++ ys,
    both_all a b c a' b' c' xs ys before after,
    (λ contents known.
        are contents known
        ∙ ap (λ (zs : List ℕ). xs ++ zs)
        (ap (λ (zs : List ℕ). waiting ++ zs) (split contents)
        ∙ sym (append_assoc waiting (g contents) (rest' contents))
        ∙ ap (λ (zs : List ℕ). zs ++ rest' contents) (be contents known)
        ∙ append_assoc ys left (rest' contents))
        ∙ sym (append_assoc xs ys (left ++ rest' contents))),
  )

  -- a front of one piece more
  pub to_part : (g rest' : List (List ℕ) → List ℕ) → ((contents : List (List ℕ)) → rest contents ≡ g contents ++ rest' contents) → PrintsTo Known due rest a b a' b' waiting
      → PrintsFront Known (λ contents. waiting ++ g contents) b c → PrintsFront Known due a c
  to_part g rest' split (xs, before, are) (ys, after, be) = (
    xs ++ ys,
    Appends-trans a b c xs ys before.0 after,
    (λ contents known.
        let own = be contents known in (
          own.0 ++ rest' contents,
          are contents known
              ∙ ap (λ (zs : List ℕ). xs ++ zs)
              (ap (λ (zs : List ℕ). waiting ++ zs) (split contents)
              ∙ sym (append_assoc waiting (g contents) (rest' contents))
              ∙ ap (λ (zs : List ℕ). zs ++ rest' contents) own.1
              ∙ append_assoc ys own.0 (rest' contents))
              ∙ sym (append_assoc xs ys (own.0 ++ rest' contents)),
        )),
  )

  -- a front of those that wait
  pub to_front : PrintsTo Known due rest a b a' b' waiting → AppendsFront b c waiting → PrintsFront Known due a c
  to_front (xs, before, are) (n, part) = (
    xs ++ take n waiting,
    Appends-trans a b c xs (take n waiting) before.0 part,
    (λ contents known. (
      drop n waiting ++ rest contents,
      are contents known
          ∙ ap (λ (zs : List ℕ). xs ++ zs)
          (ap (λ (zs : List ℕ). zs ++ rest contents) (sym (take-append-drop n waiting)) ∙ append_assoc (take n waiting) (drop n waiting) (rest contents))
          ∙ sym (append_assoc xs (take n waiting) (drop n waiting ++ rest contents)),
    )),
  )

  -- those that wait, if no bytes are left to be read
  pub to_all : ((contents : List (List ℕ)) → rest contents ≡ []) → PrintsTo Known due rest a b a' b' waiting → AppendsAll b c b' c' waiting → PrintsAll Known due a c a' c'
  to_all none (xs, before, are) after = (
    xs ++ waiting,
    both_all a b c a' b' c' xs waiting before after,
    λ contents known. are contents known ∙ ap (λ (zs : List ℕ). xs ++ (waiting ++ zs)) (none contents) ∙ ap (λ (zs : List ℕ). xs ++ zs) (append-nil waiting),
  )
