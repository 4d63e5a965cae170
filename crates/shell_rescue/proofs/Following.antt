-- What was read of the arenas of a namespace, one after another.
use Rattle.std.proofs.Common.{◌≡◌, ◌≢◌, ℕ, zero, suc, ◌+◌, ◌/◌, ◌≤◌, Bool, true, false, cond, eqb, List, [], ◌∷◌, ◌++◌, length, drop, Option, refl, sym, ap, ◌∙◌, subst, arith}
use Rattle.std.specs.Prelude.{MatchBool}
use Rattle.std.specs.List.{cons_option}
use Rattle.std.proofs.lemmas.Bool.{ne_eqb}
use Rattle.std.proofs.lemmas.List.{append_assoc, append-nil, length-append}
use Rattle.std.proofs.lemmas.List.Sums.{sum_by-cons, sum_by-append}
use Rattle.arena_layout.specs.declared.info.InfoFault.{InfoFault}
use Rattle.arena_check.specs.declared.info.InfoSource.{InfoSource}
use Rattle.arena_check.specs.Check.{info_used, next_of, source_of}
use Rattle.shell_rescue.specs.declared.arena.ArenaFound.{ArenaFound}
use Rattle.shell_rescue.specs.declared.arena.ArenaLost.{ArenaLost}
use Rattle.shell_rescue.specs.declared.arena.ArenaRescued.{ArenaRescued}
use Rattle.shell_rescue.specs.Lost.{arena_lines, count_in, lines_from, lost_arenas, lost_by, lost_in, lost_within}
use Rattle.shell_rescue.specs.Reading.{IsFound, refused_by}
use Rattle.shell_rescue.specs.Rescue.{arena_by, arenas_within, behind, rescued_arenas}

-- ---- lines

lines_append : (k : ℕ) (xs ys : List ArenaLost) → lines_from k (xs ++ ys) ≡ lines_from k xs ++ lines_from (k + length xs) ys
lines_append k [] ys = ap (λ (n : ℕ). lines_from n ys) (let e : k ≡ k + length {A = ArenaLost} [] = omega arith in e)
lines_append k (x ∷ xs) ys =
    ap (λ (text : List ℕ). arena_lines k x ++ text) (lines_append (k + 1) xs ys)
    ∙ sym (append_assoc (arena_lines k x) (lines_from (k + 1) xs) (lines_from (k + 1 + length xs) ys))
    ∙ ap (λ (n : ℕ). (arena_lines k x ++ lines_from (k + 1) xs) ++ lines_from n ys) (let e : k + 1 + length xs ≡ k + length (x ∷ xs) = omega arith in e)

-- those of one arena more
pub lines_next : (listing : Bool) (k : ℕ) (done : List ArenaLost) (own lost : ArenaLost) (text now : List ℕ) → length done ≡ k → own ≡ lost → MatchBool listing (text ≡ lines_from 0 done) (text ≡ [])
    → MatchBool listing (now ≡ text ++ arena_lines k own) (now ≡ text) → MatchBool listing (now ≡ lines_from 0 (done ++ lost ∷ [])) (now ≡ [])
lines_next true k done own lost text now many is was more =
    let place : k ≡ 0 + length done = omega (arith, many) in
    more ∙ (λ i. was i ++ arena_lines (place i) (is i))
    ∙ ap (λ (rest : List ℕ). lines_from 0 done ++ rest) (sym (append-nil (arena_lines (0 + length done) lost)))
    ∙ sym (lines_append 0 done (lost ∷ []))
lines_next false k done own lost text now many is was more = more ∙ was

pub no_lines : (listing : Bool) (text : List ℕ) → text ≡ [] → MatchBool listing (text ≡ lines_from 0 []) (text ≡ [])
no_lines true text none = none
no_lines false text none = none

-- why the first arena has no info block
first_is : (words parent : List ℕ) (k at : ℕ) (before own now : Option InfoFault) → (k ≡ 0 → at ≡ 0) → (k ≢ 0 → before ≡ refused_by (source_of words parent))
    → own ≡ refused_by (source_of (drop at words) parent) → now ≡ cond (eqb k 0) own before → now ≡ refused_by (source_of words parent)
first_is words parent zero at before own now first was here is = is ∙ here ∙ ap (λ (n : ℕ). refused_by (source_of (drop n words) parent)) (first refl)
first_is words parent (suc k) at before own now first was here is =
    let some : suc k ≢ 0 = λ e. omega (arith, e) in
    is ∙ ap (λ (b : Bool). cond b own before) (ne_eqb (suc k) 0 some) ∙ was some

-- ---- the arenas so far

-- The first k arenas have these sectors and lines, so many sectors of them are lost, and the next arena begins at this word.
pub record IsSoFar (listing : Bool) (bad : ℕ → Bool) (words parent : List ℕ) (k at count : ℕ) (arenas : List ArenaRescued) (text : List ℕ) (refused : Option InfoFault) : Type 0 where
  pub done : List ArenaLost
  pub many : length done ≡ k
  pub text_is : MatchBool listing (text ≡ lines_from 0 done) (text ≡ [])
  pub count_is : count ≡ count_in done
  pub refused_is : k ≢ 0 → refused ≡ refused_by (source_of words parent)
  pub first : k ≡ 0 → at ≡ 0
  pub left : ℕ
  pub enough : k + left ≡ length words + 1
  pub losses : lost_arenas bad words parent ≡ done ++ lost_within left bad words parent at
  pub arenas_are : rescued_arenas bad words parent ≡ arenas ++ arenas_within left bad words parent at

pub starts : (listing : Bool) (bad : ℕ → Bool) (words parent : List ℕ) (arenas : List ArenaRescued) (text : List ℕ) (refused : Option InfoFault) → arenas ≡ [] → text ≡ []
    → IsSoFar listing bad words parent 0 0 0 arenas text refused
starts listing bad words parent arenas text refused no_arenas no_text = record {
  done = [];
  many = refl;
  text_is = no_lines listing text no_text;
  count_is = refl;
  refused_is = λ some. absurd (some refl);
  first = λ e. refl;
  left = length words + 1;
  enough = omega arith;
  losses = refl;
  arenas_are = ap (λ (before : List ArenaRescued). before ++ rescued_arenas bad words parent) (sym no_arenas);
}

module _ (listing : Bool) (bad : ℕ → Bool) (words parent : List ℕ) (k at count : ℕ) (arenas : List ArenaRescued) (text : List ℕ) (refused : Option InfoFault)
    (so_far : IsSoFar listing bad words parent k at count arenas text refused) (short : k ≤ length words) where
  abbrev used : InfoSource
  used = source_of (drop at words) parent

  abbrev lost : ArenaLost
  lost = lost_by at bad (drop at words) used

  abbrev here : List ArenaRescued
  here = arena_by at bad (drop at words) (info_used used)

  -- the next arena
  record IsOne (m : ℕ) : Type 0 where
    enough : k + 1 + m ≡ length words + 1
    losses : lost_within so_far.left bad words parent at ≡ lost ∷ behind (next_of used) at (lost_within m bad words parent)
    arenas_are : arenas_within so_far.left bad words parent at ≡ here ++ behind (next_of used) at (arenas_within m bad words parent)

  within_one : (n : ℕ) → so_far.left ≡ n → (m : ℕ) × IsOne m
  unfolding lost_within arenas_within
  within_one zero is = absurd (omega (arith, is, so_far.enough, short))
  within_one (suc m) is = (
    m,
    record {
      enough = omega (arith, is, so_far.enough);
      losses = ap (λ (n : ℕ). lost_within n bad words parent at) is;
      arenas_are = ap (λ (n : ℕ). arenas_within n bad words parent at) is;
    },
  )

  -- what is behind it, if there is another one
  on_behind : {X : Type 0} (n : ℕ) (from : ℕ → List X) → n ≡ next_of used → n ≢ 0 → behind (next_of used) at from ≡ from (at + n / 8)
  on_behind n from is some = ap (λ (x : ℕ). behind x at from) (sym is) ∙ rw (ne_eqb n 0 some) refl

  module _ (own : ArenaFound) (found : IsFound at bad (drop at words) used own) (arenas_now : List ArenaRescued) (text_now : List ℕ) (refused_now : Option InfoFault)
      (arenas_is : arenas_now ≡ arenas ++ cons_option own.arena []) (text_is : MatchBool listing (text_now ≡ text ++ arena_lines k own.lost) (text_now ≡ text))
      (refused_is : refused_now ≡ cond (eqb k 0) own.refused refused) where
    lines_are : MatchBool listing (text_now ≡ lines_from 0 (so_far.done ++ lost ∷ [])) (text_now ≡ [])
    lines_are = lines_next listing k so_far.done own.lost lost text text_now so_far.many found.lost so_far.text_is text_is

    count_are : count + lost_in own.lost ≡ count_in (so_far.done ++ lost ∷ [])
    count_are = omega (arith, so_far.count_is, ap lost_in found.lost, sum_by-append lost_in so_far.done (lost ∷ []), sum_by-cons lost_in lost [])

    pub refused_are : refused_now ≡ refused_by (source_of words parent)
    refused_are = first_is words parent k at refused own.refused refused_now so_far.first so_far.refused_is found.refused refused_is

    arenas_with : (more : List ArenaRescued) → arenas ++ (here ++ more) ≡ arenas_now ++ more
    arenas_with more =
        ap (λ (found_here : List ArenaRescued). arenas ++ (found_here ++ more)) (sym found.arena) ∙ sym (append_assoc arenas (cons_option own.arena []) more)
        ∙ ap (λ (all : List ArenaRescued). all ++ more) (sym arenas_is)

    -- another arena follows
    pub goes_on : (n : ℕ) → n ≡ next_of used → n ≢ 0 → IsSoFar listing bad words parent (k + 1) (at + n / 8) (count + lost_in own.lost) arenas_now text_now refused_now
    goes_on n is some =
        let one = within_one so_far.left refl in
        record {
          done = so_far.done ++ lost ∷ [];
          many = omega (arith, so_far.many, length-append so_far.done (lost ∷ []));
          text_is = lines_are;
          count_is = count_are;
          refused_is = λ _. refused_are;
          first = λ none. absurd (omega (arith, none));
          left = one.0;
          enough = one.1.enough;
          losses = so_far.losses ∙ ap (λ (rest : List ArenaLost). so_far.done ++ rest) (one.1.losses ∙ ap (λ (rest : List ArenaLost). lost ∷ rest) (on_behind n (lost_within one.0 bad words parent) is some))
              ∙ sym (append_assoc so_far.done (lost ∷ []) (lost_within one.0 bad words parent (at + n / 8)));
          arenas_are = so_far.arenas_are ∙ ap (λ (rest : List ArenaRescued). arenas ++ rest) (one.1.arenas_are ∙ ap (λ (rest : List ArenaRescued). here ++ rest) (on_behind n (arenas_within one.0 bad words parent) is some))
              ∙ arenas_with (arenas_within one.0 bad words parent (at + n / 8));
        }

    -- it was the last one
    module _ (none : next_of used ≡ 0) where
      all_lost : lost_arenas bad words parent ≡ so_far.done ++ lost ∷ []
      all_lost =
          let one = within_one so_far.left refl in
          so_far.losses ∙ ap (λ (rest : List ArenaLost). so_far.done ++ rest) (one.1.losses ∙ ap (λ (x : ℕ). lost ∷ behind x at (lost_within one.0 bad words parent)) none)

      pub arenas_end : arenas_now ≡ rescued_arenas bad words parent
      arenas_end =
          let one = within_one so_far.left refl in
          sym (so_far.arenas_are ∙ ap (λ (rest : List ArenaRescued). arenas ++ rest) (one.1.arenas_are ∙ ap (λ (x : ℕ). here ++ behind x at (arenas_within one.0 bad words parent)) none)
          ∙ arenas_with [] ∙ append-nil arenas_now)

      pub text_ends : MatchBool listing (text_now ≡ lines_from 0 (lost_arenas bad words parent)) (text_now ≡ [])
      text_ends = subst (λ (all : List ArenaLost). MatchBool listing (text_now ≡ lines_from 0 all) (text_now ≡ [])) (sym all_lost) lines_are

      pub count_ends : count + lost_in own.lost ≡ count_in (lost_arenas bad words parent)
      count_ends = count_are ∙ sym (ap count_in all_lost)
