-- A session goes from call to call, and comes to its end.
use Rattle.std.proofs.Common.{◌≡◌, ◌⊎◌, inl, inr, ℕ, ◌+◌, ◌<◌, Bool, true, false, not, ◌&&◌, ◌||◌, List, [], ◌∷◌, ◌++◌, length, get_or, Option, Some, None, refl, sym, ap, ◌∙◌, subst, arith, filter_map}
use Rattle.std.specs.Prelude.{MatchBool, option_to_list, cond, if◌then◌else◌}
use Rattle.std.specs.List.{cons_option, AllByRecursion}
use Rattle.std.proofs.lemmas.List.Elements.{filter_map-append, filter-append}
use Rattle.std.proofs.Common.{append-nil}
use Rattle.std.proofs.lemmas.List.Sums.{sum_by-append}
use Rattle.std.proofs.lemmas.List.Folds.{list_any-append}
use Rattle.session_script.specs.declared.script.Line.{Line}
use Rattle.session_account.specs.declared.reply.Reply.{Reply}
use Rattle.session_script.specs.declared.script.SessionLines.{SessionLines}
use Rattle.session_account.specs.Serving.{IsArena}
use Rattle.session_account.specs.Made.{Made, made, made_from, made_by, on_after, has_cut, is_cut, is_cut_last, uncut, cut_of}
use Rattle.session_account.specs.Orders.{entries_for, entry_for, InJournal}
use Rattle.session_account.specs.Sectors.{is_check, steps_at, spot_of, ChecksExactly, IsOfKind, InHistory, stand_of, stands_of, steps_in, steps_of}
use Rattle.session_account.specs.Account.{IsInTime, session_at}
use Rattle.session_account.specs.Parts.{next_made, more, IsOfCut}
use Rattle.session_account.specs.Going.{HasLeft, BeginsSo, GoesOn, StopsSo, EndsSo}
use Rattle.session_account.proofs.Growing.{made_grows}

-- ---- lists

pub all_more : {X : Type 0} (P : X → Type 0) (xs : List X) (x : X) → AllByRecursion P xs → P x → AllByRecursion P (xs ++ x ∷ [])
all_more P [] x all p = (p, tt)
all_more P (y ∷ ys) x all p = (all.0, all_more P ys x all.1 p)

one_of : {Y : Type 0} (o : Option Y) → cons_option o [] ≡ option_to_list o
one_of None = refl
one_of (Some y) = refl

map_one : {X Y : Type 0} (h : X → Option Y) (x : X) → filter_map h (x ∷ []) ≡ option_to_list (h x)
map_one h x = one_of (h x)

pub map_more : {X Y : Type 0} (h : X → Option Y) (xs : List X) (x : X) → filter_map h (xs ++ x ∷ []) ≡ filter_map h xs ++ option_to_list (h x)
map_more h xs x = filter_map-append h xs (x ∷ []) ∙ ap (λ ys. filter_map h xs ++ ys) (map_one h x)

pub length_more : {X : Type 0} (xs : List X) (x : X) → length (xs ++ x ∷ []) ≡ length xs + 1
length_more [] x = refl
length_more (y ∷ ys) x = let h = length_more ys x in omega (arith, h)

-- ---- calls of which none was cut

or_false : (a b : Bool) → (a || b) ≡ false → (a ≡ false) × (b ≡ false)
or_false true b h = absurd (cc)
or_false false b h = (refl, h)

kept_one : (c : Bool) (m : Made) (ms : List Made) → c ≡ false → cond (not c) (m ∷ ms) ms ≡ m ∷ ms
kept_one true m ms h = absurd (cc)
kept_one false m ms h = refl

gone_one : (c : Bool) (m : Made) (ms : List Made) → c ≡ false → cond c (m ∷ ms) ms ≡ ms
gone_one true m ms h = absurd (cc)
gone_one false m ms h = refl

pub all_uncut : (call : ℕ) (on : Option (List ℕ)) (lines : List Line) (replies : List Reply) → has_cut replies ≡ false → uncut (made_from call on lines replies) ≡ made_from call on lines replies
all_uncut call on lines [] h = refl
all_uncut call on [] (r ∷ rs) h = refl
all_uncut call on (l ∷ ls) (r ∷ rs) h =
    let both = or_false (is_cut r) (has_cut rs) h in
    kept_one (is_cut r) (made call on l r) (uncut (made_from (call + 1) (on_after on l r) ls rs)) both.0 ∙ ap (λ ms. made call on l r ∷ ms) (all_uncut (call + 1) (on_after on l r) ls rs both.1)

pub none_cut : (call : ℕ) (on : Option (List ℕ)) (lines : List Line) (replies : List Reply) → has_cut replies ≡ false → cut_of (made_from call on lines replies) ≡ []
none_cut call on lines [] h = refl
none_cut call on [] (r ∷ rs) h = refl
none_cut call on (l ∷ ls) (r ∷ rs) h =
    let both = or_false (is_cut r) (has_cut rs) h in
    gone_one (is_cut r) (made call on l r) (cut_of (made_from (call + 1) (on_after on l r) ls rs)) both.0 ∙ none_cut (call + 1) (on_after on l r) ls rs both.1

pub cut_last : (replies : List Reply) (answer : Reply) → has_cut replies ≡ false → is_cut_last (replies ++ answer ∷ []) ≡ true
cut_last [] answer h = refl
cut_last (r ∷ []) answer h = let both = or_false (is_cut r) false h in ap (λ (b : Bool). not b && true) both.0
cut_last (r ∷ s ∷ rs) answer h =
    let both = or_false (is_cut r) (has_cut (s ∷ rs)) h in
    ap (λ (b : Bool). not b && is_cut_last (s ∷ rs ++ answer ∷ [])) both.0 ∙ cut_last (s ∷ rs) answer both.1

pub no_cut_last : (replies : List Reply) → has_cut replies ≡ false → is_cut_last replies ≡ true
no_cut_last [] h = refl
no_cut_last (r ∷ []) h = refl
no_cut_last (r ∷ s ∷ rs) h =
    let both = or_false (is_cut r) (has_cut (s ∷ rs)) h in
    ap (λ (b : Bool). not b && is_cut_last (s ∷ rs)) both.0 ∙ no_cut_last (s ∷ rs) both.1

when_true : (b : Bool) (P Q : Type 0) → b ≡ true → P → MatchBool b P Q
when_true true P Q e p = p
when_true false P Q e p = absurd (cc)

when_false : (b : Bool) (P Q : Type 0) → b ≡ false → Q → MatchBool b P Q
when_false true P Q e q = absurd (cc)
when_false false P Q e q = q

true_or : (a b : Bool) → a ≡ false → b ≡ true → (a || (b || false)) ≡ true
true_or true b e f = refl
true_or false true e f = refl
true_or false false e f = f

-- behind calls of which none was cut, the one that was
module _ (session : SessionLines) (replies : List Reply) (line : Line) (answer : Reply) (inside : length replies < length session.calls) (is : get_or session.calls (length replies) line ≡ line) (uncut_so_far : has_cut replies ≡ false) (cut : is_cut answer ≡ true) where
  abbrev pub stopped_at : Made
  stopped_at = next_made session.calls replies line answer

  pub stopped_made : made_by session.calls (more replies answer) ≡ made_by session.calls replies ++ stopped_at ∷ []
  stopped_made = made_grows session.calls replies line answer inside is

  pub stopped_uncut : uncut (made_by session.calls (more replies answer)) ≡ made_by session.calls replies
  stopped_uncut =
      ap uncut stopped_made ∙ filter-append (λ m. not (is_cut m.reply)) (made_by session.calls replies) (stopped_at ∷ [])
      ∙ ap (λ (b : Bool). uncut (made_by session.calls replies) ++ cond (not b) (stopped_at ∷ []) []) cut
      ∙ append-nil (uncut (made_by session.calls replies)) ∙ all_uncut 0 None session.calls replies uncut_so_far

  pub stopped_cut : cut_of (made_by session.calls (more replies answer)) ≡ stopped_at ∷ []
  stopped_cut =
      ap cut_of stopped_made ∙ filter-append (λ m. is_cut m.reply) (made_by session.calls replies) (stopped_at ∷ [])
      ∙ ap (λ (b : Bool). cut_of (made_by session.calls replies) ++ cond b (stopped_at ∷ []) []) cut
      ∙ ap (λ ms. ms ++ stopped_at ∷ []) (none_cut 0 None session.calls replies uncut_so_far)

-- ---- the laws

pub begins_so : BeginsSo
begins_so all q session = record {
  few = omega arith;
  goes_on = refl;
  has_left = λ n e. (n, e, omega arith);
  checked = tt;
  kinds = tt;
  commands = refl;
  arenas = λ place k is. refl;
}

pub goes_on : GoesOn
goes_on all q session replies entries entries' stands stands' left left' line answer at next answered = record {
  few = omega (arith, count, next.0);
  goes_on = list_any-append is_cut replies (answer ∷ []) ∙ still;
  has_left = paid;
  checked = subst (AllByRecursion (ChecksExactly all)) (sym grown) (all_more (ChecksExactly all) before m at.checked answered.checked);
  kinds = subst (AllByRecursion IsOfKind) (sym grown) (all_more IsOfKind before m at.kinds answered.kind);
  commands = answered.commands ∙ ap (λ es. es ++ option_to_list (entry_for q m)) at.commands ∙ sym (map_more (entry_for q) before m) ∙ ap (entries_for q) (sym grown);
  arenas = λ place k is. answered.arenas place k is ∙ ap (λ ss. ss ++ option_to_list (stand_of all place k m)) (at.arenas place k is) ∙ sym (map_more (stand_of all place k) before m) ∙ ap (stands_of all place k) (sym grown);
}
  where
    m : Made
    m = next_made session.calls replies line answer

    before : List Made
    before = made_by session.calls replies

    grown : made_by session.calls (more replies answer) ≡ before ++ m ∷ []
    grown = made_grows session.calls replies line answer next.0 next.1

    count : length (more replies answer) ≡ length replies + 1
    count = length_more replies answer

    still : (has_cut replies || (is_cut answer || false)) ≡ false
    still = ap (λ (b : Bool). b || (is_cut answer || false)) at.goes_on ∙ ap (λ (b : Bool). b || false) answered.uncut

    spent : steps_in all (made_by session.calls (more replies answer)) ≡ steps_in all before + steps_of all m
    spent = ap (steps_in all) grown ∙ sum_by-append (steps_of all) before (m ∷ []) ∙ omega arith

    paid : HasLeft session (steps_in all (made_by session.calls (more replies answer))) left'
    paid n e = let h = at.has_left n e in let p = answered.paid h.0 h.1 in (p.0, p.1, omega (arith, spent, h.2, p.2))

pub stops_so : StopsSo
stops_so all script q replies entries entries' stands stands' left line answer room calls power at next stopped still told cause = record {
  cut_last = record { few = omega (arith, length_more replies answer, next.0); last = cut_last replies answer at.goes_on; all = λ e. absurd (let x : true ≡ false = sym has ∙ e in cc) };
  in_time = in_time;
  checked = subst (AllByRecursion (ChecksExactly all)) (sym grown) (all_more (ChecksExactly all) before m at.checked (λ e. absurd (let x : true ≡ false = sym stopped.cut ∙ e in cc)));
  kinds = subst (AllByRecursion IsOfKind) (sym grown) (all_more IsOfKind before m at.kinds (λ e f. absurd (let x : true ≡ false = sym stopped.cut ∙ e in cc)));
  commands = in_journal stopped.commands;
  arenas = λ place k is. in_history place k is (stopped.arenas place k is);
  in_call = still;
  told = λ e. told;
  stopped = cause;
}
  where
    session : SessionLines
    session = session_at script q

    m : Made
    m = next_made session.calls replies line answer

    before : List Made
    before = made_by session.calls replies

    grown : made_by session.calls (more replies answer) ≡ before ++ m ∷ []
    grown = stopped_made session replies line answer next.0 next.1 at.goes_on stopped.cut

    only_before : uncut (made_by session.calls (more replies answer)) ≡ before
    only_before = stopped_uncut session replies line answer next.0 next.1 at.goes_on stopped.cut

    only_it : cut_of (made_by session.calls (more replies answer)) ≡ m ∷ []
    only_it = stopped_cut session replies line answer next.0 next.1 at.goes_on stopped.cut

    has : has_cut (more replies answer) ≡ true
    has = list_any-append is_cut replies (answer ∷ []) ∙ true_or (has_cut replies) (is_cut answer) at.goes_on stopped.cut

    nothing : steps_of all m ≡ 0
    nothing = ap (λ (b : Bool). if b then 0 else if is_check m.reply then 0 else steps_at m.line (spot_of all m)) stopped.cut

    in_time : IsInTime all session (more replies answer)
    in_time n e =
        let h = at.has_left n e in
        let spent : steps_in all (made_by session.calls (more replies answer)) ≡ steps_in all before + steps_of all m = ap (steps_in all) grown ∙ sum_by-append (steps_of all) before (m ∷ []) ∙ omega arith in
        omega (arith, spent, nothing, h.2)

    first : entries ≡ entries_for q (uncut (made_by session.calls (more replies answer)))
    first = at.commands ∙ ap (entries_for q) (sym only_before)

    its : entries_for q (cut_of (made_by session.calls (more replies answer))) ≡ option_to_list (entry_for q m)
    its = ap (entries_for q) only_it ∙ map_one (entry_for q) m

    in_journal : (entries' ≡ entries) ⊎ (entries' ≡ entries ++ option_to_list (entry_for q m)) → InJournal q session.calls (more replies answer) entries'
    in_journal (inl e) = record { last = []; entries = e ∙ first ∙ sym (append-nil (entries_for q (uncut (made_by session.calls (more replies answer))))); is_last = when_true (has_cut (more replies answer)) _ _ has (inl refl) }
    in_journal (inr e) = record { last = option_to_list (entry_for q m); entries = e ∙ ap (λ es. es ++ option_to_list (entry_for q m)) first; is_last = when_true (has_cut (more replies answer)) _ _ has (inr (sym its)) }

    in_history : (place k : ℕ) → IsArena all place k → (stands' place k ≡ stands place k) ⊎ (stands' place k ≡ stands place k ++ option_to_list (stand_of all place k m)) → InHistory all place k (made_by session.calls (more replies answer)) (stands' place k)
    in_history place k is (inl e) = record { last = []; entries = e ∙ at.arenas place k is ∙ ap (stands_of all place k) (sym only_before) ∙ sym (append-nil (stands_of all place k (uncut (made_by session.calls (more replies answer))))); is_last = inl refl }
    in_history place k is (inr e) = record { last = option_to_list (stand_of all place k m); entries = e ∙ ap (λ ss. ss ++ option_to_list (stand_of all place k m)) (at.arenas place k is ∙ ap (stands_of all place k) (sym only_before)); is_last = inr (sym (ap (stands_of all place k) only_it ∙ map_one (stand_of all place k) m)) }

pub ends_so : EndsSo
ends_so all script q replies entries last stands left room calls power at whole given none cause = record {
  cut_last = record { few = at.few; last = no_cut_last replies at.goes_on; all = λ e. whole };
  in_time = λ n e. let h = at.has_left n e in omega (arith, h.2);
  checked = at.checked;
  kinds = at.kinds;
  commands = record {
    last = last;
    entries = ap (λ es. es ++ last) (at.commands ∙ ap (entries_for q) (sym (all_uncut 0 None session.calls replies at.goes_on)));
    is_last = when_false (has_cut replies) _ _ at.goes_on given;
  };
  arenas = λ place k is. record {
    last = [];
    entries = at.arenas place k is ∙ ap (stands_of all place k) (sym (all_uncut 0 None session.calls replies at.goes_on)) ∙ sym (append-nil (stands_of all place k (uncut (made_by session.calls replies))));
    is_last = inl refl;
  };
  in_call = λ place k is. subst (AllByRecursion (IsOfCut all place k (made_by session.calls replies) (stands place k))) (sym (none place k is)) tt;
  told = λ e. absurd (let x : true ≡ false = sym e ∙ at.goes_on in cc);
  stopped = cause;
}
  where
    session : SessionLines
    session = session_at script q
