-- Arenas in sequence in the words of a namespace.
use Rattle.std.proofs.Common.{◌≡◌, ◌≢◌, ℕ, zero, suc, ◌+◌, ◌*◌, ◌/◌, ◌%◌, ◌<◌, ◌≤◌, List, [], ◌∷◌, ◌++◌, length, take, drop, Option, Some, None, Result, Ok, Err, refl, sym, ap, ◌∙◌, subst, arith}
use Rattle.std.proofs.lemmas.Bool.{eq-eqb, ne_eqb}
use Rattle.std.proofs.lemmas.List.{take-take, drop-take, append-nil, length-drop}
use Rattle.arena_open.specs.declared.opened.Opened.{Opened}
use Rattle.arena_open.specs.declared.refused.OpenRefused.{OpenRefused}
use Rattle.arena_open.specs.Reading.{opening}
use Rattle.arena_open.specs.Chain.{Link, Links, no_more, with_link, behind_of, linked, chain_within, chain_of}
use Rattle.arena_open.proofs.Own.{opening_same, Lies, lies}

-- the arenas from a word on, each of which opens and names the next; the last one names `end`
abbrev pub Joined : List ℕ → List ℕ → ℕ → List Link → ℕ → Type 0
Joined words parent at [] end = at ≡ end
Joined words parent at (link ∷ links) end =
    (link.at ≡ at) × (at ≤ length words) × (opening (drop at words) parent ≡ Ok link.opened) × (link.opened.info.next ≢ 0)
    × Joined words parent (at + link.opened.info.next / 8) links end

-- ---- the end

pub record Far (at : ℕ) (links : List Link) (end : ℕ) : Type 0 where
  pub ahead : 2097152 * length links + at ≤ end
  pub whole : at % 512 ≡ 0 → end % 512 ≡ 0

pub far : (words parent : List ℕ) (at : ℕ) (links : List Link) (end : ℕ) → Joined words parent at links end → Far at links end
far words parent at [] end j = record { ahead = omega (arith, j); whole = λ w. omega (arith, j, w) }
far words parent at (link ∷ links) end j =
    let l : Lies (length words) at link.opened = lies words parent at link.opened j.1 j.2 in
    let next : link.opened.info.next ≡ link.opened.info.layout.size = l.next_is j.3 in
    let f : Far (at + link.opened.info.next / 8) links end = far words parent (at + link.opened.info.next / 8) links end j.4 in
    record { ahead = omega (arith, l.large, next, f.ahead); whole = λ w. f.whole (omega (arith, w, l.whole, next)) }

-- ---- in other words

pub take_part : (end at k : ℕ) (a b : List ℕ) → take end a ≡ take end b → at + k ≤ end → take k (drop at a) ≡ take k (drop at b)
take_part end at k a b same le =
    let front : take (at + k) a ≡ take (at + k) b = sym (take-take (at + k) end a le) ∙ ap (take (at + k)) same ∙ take-take (at + k) end b le in
    sym (drop-take at k a) ∙ ap (drop at) front ∙ drop-take at k b

-- words that are equal up to the end have the same arenas
pub joined_same : (a b parent : List ℕ) (at : ℕ) (links : List Link) (end : ℕ) → Joined a parent at links end → length b ≡ length a → take end a ≡ take end b
    → Joined b parent at links end
joined_same a b parent at [] end j count same = j
joined_same a b parent at (link ∷ links) end j count same =
    let l : Lies (length a) at link.opened = lies a parent at link.opened j.1 j.2 in
    let f : Far (at + link.opened.info.next / 8) links end = far a parent (at + link.opened.info.next / 8) links end j.4 in
    let here : opening (drop at b) parent ≡ Ok link.opened =
    opening_same (drop at a) (drop at b) parent link.opened j.2 (omega (arith, count, length-drop at a, length-drop at b))
    (take_part end at (link.opened.info.layout.size / 8) a b same (omega (arith, f.ahead, l.next_is j.3))) in
    (j.0, omega (arith, j.1, count), here, j.3, joined_same a b parent (at + link.opened.info.next / 8) links end j.4 count same)

-- one more arena
pub joined_more : (words parent : List ℕ) (at : ℕ) (links : List Link) (end : ℕ) (opened : Opened) → Joined words parent at links end → end ≤ length words
    → opening (drop end words) parent ≡ Ok opened → opened.info.next ≢ 0 → Joined words parent at (links ++ record { at = end; opened = opened } ∷ []) (end + opened.info.next / 8)
joined_more words parent at [] end opened j le is some =
    subst (λ (a : ℕ). Joined words parent a (record { at = end; opened = opened } ∷ []) (end + opened.info.next / 8)) (sym j) (refl, le, is, some, refl)
joined_more words parent at (link ∷ links) end opened j le is some =
    (j.0, j.1, j.2, j.3, joined_more words parent (at + link.opened.info.next / 8) links end opened j.4 le is some)

-- ---- the chain

abbrev pub with_links : List Link → Links → Links
with_links links behind = record { links = links ++ behind.links; refused = behind.refused }

module _ (n : ℕ) (words parent : List ℕ) (at : ℕ) where
  pub linked_more : (opened : Opened) → opening (drop at words) parent ≡ Ok opened → opened.info.next ≢ 0
      → chain_within (suc n) words parent at ≡ with_link (record { at = at; opened = opened }) (chain_within n words parent (at + opened.info.next / 8))
  unfolding chain_within
  linked_more opened is some =
      ap (λ (r : Result Opened OpenRefused). linked at r (chain_within n words parent)) is ∙ rw (ne_eqb opened.info.next 0 some) refl

  pub linked_last : (opened : Opened) → opening (drop at words) parent ≡ Ok opened → opened.info.next ≡ 0
      → chain_within (suc n) words parent at ≡ with_link (record { at = at; opened = opened }) no_more
  unfolding chain_within
  linked_last opened is none =
      ap (λ (r : Result Opened OpenRefused). linked at r (chain_within n words parent)) is ∙ rw (eq-eqb opened.info.next 0 none) refl

  pub linked_some : (opened : Opened) → opening (drop at words) parent ≡ Ok opened
      → chain_within (suc n) words parent at ≡ with_link (record { at = at; opened = opened }) (behind_of (record { at = at; opened = opened }) (chain_within n words parent))
  unfolding chain_within
  linked_some opened is = ap (λ (r : Result Opened OpenRefused). linked at r (chain_within n words parent)) is

  pub linked_refused : (fault : OpenRefused) → opening (drop at words) parent ≡ Err fault
      → chain_within (suc n) words parent at ≡ record { links = []; refused = Some fault }
  unfolding chain_within
  linked_refused fault is = ap (λ (r : Result Opened OpenRefused). linked at r (chain_within n words parent)) is

pub record Reached (words parent : List ℕ) (at : ℕ) (links : List Link) (end n : ℕ) : Type 0 where
  pub left : ℕ
  pub enough : length words ≤ left + end
  pub is : chain_within n words parent at ≡ with_links links (chain_within left words parent end)

pub reached : (words parent : List ℕ) (n at : ℕ) (links : List Link) (end : ℕ) → Joined words parent at links end → length words ≤ n + at → Reached words parent at links end n
reached words parent n at [] end j enough = record { left = n; enough = omega (arith, j, enough); is = ap (chain_within n words parent) j }
reached words parent zero at (link ∷ links) end j enough =
    let l : Lies (length words) at link.opened = lies words parent at link.opened j.1 j.2 in
    absurd (omega (arith, l.large, l.inside, enough))
reached words parent (suc n) at (link ∷ links) end j enough =
    let l : Lies (length words) at link.opened = lies words parent at link.opened j.1 j.2 in
    let r : Reached words parent (at + link.opened.info.next / 8) links end n =
    reached words parent n (at + link.opened.info.next / 8) links end j.4 (omega (arith, l.large, l.next_is j.3, enough)) in
    record {
      left = r.left;
      enough = r.enough;
      is = linked_more n words parent at link.opened j.2 j.3
          ∙ (λ i. with_link (record { at = sym j.0 i; opened = link.opened }) (r.is i));
    }

-- the chain of a namespace whose first arenas are known
module _ (words parent : List ℕ) (first : ℕ) (links : List Link) (end : ℕ) (j : Joined words parent first links end) (inside : end < length words) where
  abbrev r : Reached words parent first links end (length words)
  r = reached words parent (length words) first links end j (omega arith)

  pub chain_on : (c : Links) → ((n : ℕ) → chain_within (suc n) words parent end ≡ c) → chain_of words parent first ≡ with_links links c
  chain_on c is = from r.left r.enough r.is
    where
      from : (n : ℕ) → length words ≤ n + end → chain_of words parent first ≡ with_links links (chain_within n words parent end) → chain_of words parent first ≡ with_links links c
      from zero enough e = absurd (omega (arith, inside, enough))
      from (suc n) enough e = e ∙ ap (with_links links) (is n)

  pub chain_last : (opened : Opened) → opening (drop end words) parent ≡ Ok opened → opened.info.next ≡ 0
      → chain_of words parent first ≡ record { links = links ++ record { at = end; opened = opened } ∷ []; refused = None }
  chain_last opened is none = chain_on (with_link (record { at = end; opened = opened }) no_more) (λ n. linked_last n words parent end opened is none)

  pub chain_refused : (fault : OpenRefused) → opening (drop end words) parent ≡ Err fault → chain_of words parent first ≡ record { links = links; refused = Some fault }
  chain_refused fault is =
      chain_on (record { links = []; refused = Some fault }) (λ n. linked_refused n words parent end fault is)
      ∙ ap (λ (ls : List Link). record { links = ls; refused = Some fault }) (append-nil links)

-- an arena that opens, and whatever follows it
pub record Behind (words parent : List ℕ) (first : ℕ) (links : List Link) (end : ℕ) (opened : Opened) : Type 0 where
  pub more : List Link
  pub fault : Option OpenRefused
  pub is : chain_of words parent first ≡ record { links = links ++ record { at = end; opened = opened } ∷ more; refused = fault }

pub chain_some : (words parent : List ℕ) (first : ℕ) (links : List Link) (end : ℕ) (opened : Opened) → Joined words parent first links end → end < length words
    → opening (drop end words) parent ≡ Ok opened → Behind words parent first links end opened
chain_some words parent first links end opened j inside is =
    let r : Reached words parent first links end (length words) = reached words parent (length words) first links end j (omega arith) in
    from r.left r.enough r.is
  where
    from : (n : ℕ) → length words ≤ n + end → chain_within (length words) words parent first ≡ with_links links (chain_within n words parent end) → Behind words parent first links end opened
    from zero enough e = absurd (omega (arith, inside, enough))
    from (suc n) enough e =
        let link : Link = record { at = end; opened = opened } in
        record {
          more = (behind_of (record { at = end; opened = opened }) (chain_within n words parent)).links;
          fault = (behind_of (record { at = end; opened = opened }) (chain_within n words parent)).refused;
          is = e ∙ ap (with_links links) (linked_some n words parent end opened is);
        }
