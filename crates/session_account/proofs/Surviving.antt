-- What is left of a core survives by the accounts.
use Rattle.std.proofs.Common.{◌≡◌, ◌⊎◌, inl, inr, ℕ, zero, suc, ◌+◌, ◌<◌, ◌≤◌, Bool, true, false, not, List, [], ◌∷◌, ◌++◌, length, get_or, map, filter, cond, Option, Some, None, refl, sym, ap, ◌∙◌, subst, arith, eq-eqb, ne_eqb}
use Rattle.std.specs.Prelude.{◌==◌, ◌&&◌, ◌||◌, ◌≢◌, if◌then◌else◌, option_to_list, Any}
use Rattle.std.specs.List.{list_any, cons_option, AllByRecursion}
use Rattle.lane_core.specs.declared.history.Act.{Act}
use Rattle.lane_core.specs.declared.history.Entry.{Entry as HistoryEntry}
use Rattle.session_script.specs.declared.script.Line.{Line}
use Rattle.session_account.specs.declared.reply.Reply.{Reply}
use Rattle.session_script.specs.declared.script.SessionLines.{SessionLines}
use Rattle.lane_core.specs.History.{end_of, of_session}
use Rattle.lane_core.specs.Sessions.{IsFlying}
use Rattle.session_account.specs.Survival.{Flight, IsLeftBy}
use Rattle.session_account.specs.Serving.{Serving, Spot}
use Rattle.session_account.specs.Made.{Made, made, made_by, made_from, on_after, is_cut, uncut, cut_of}
use Rattle.session_account.specs.Sectors.{Stand, stand, stand_as, stand_by, stand_of, spot_of, act_for, own_stands, flight, flights_of, stands_in, stands_of}
use Rattle.session_account.specs.Account.{no_lines, session_at, replies_at, flights_from, flights_on}
use Rattle.session_account.specs.Parts.{InCall, IsOfCut, SurvivalFollows}

-- ---- lists

pub at_index : {X : Type 0} (P : X → Type 0) (xs : List X) (j : ℕ) (x : X) → AllByRecursion P xs → j < length xs → get_or xs j x ≡ x → P x
at_index P [] j x all h is = absurd (omega arith)
at_index P (y ∷ ys) zero x all h is = subst P is all.0
at_index P (y ∷ ys) (suc j) x all h is = at_index P ys j x all.1 (omega arith) is

pub among_kept : {X : Type 0} (P : X → Type 0) (test : X → Bool) (xs : List X) (j : ℕ) (x : X) → AllByRecursion P (filter test xs) → j < length xs → get_or xs j x ≡ x → test x ≡ true → P x
among_kept P test [] j x all h is passes = absurd (omega arith)
among_kept P test (y ∷ ys) zero x all h is passes = let p : test y ≡ true = ap test is ∙ passes in subst P is (subst (λ (b : Bool). AllByRecursion P (cond b (y ∷ filter test ys) (filter test ys))) p all).0
among_kept P test (y ∷ ys) (suc j) x all h is passes = among_kept P test ys j x (rest (test y) all) (omega arith) is passes
  where
    rest : (b : Bool) → AllByRecursion P (cond b (y ∷ filter test ys) (filter test ys)) → AllByRecursion P (filter test ys)
    rest true a = a.1
    rest false a = a

any_head : {X : Type 0} (P : X → Type 0) (x : X) (xs : List X) → P x → Any P (x ∷ xs)
any_head P x xs p = (0, x, omega arith, refl, p)

any_behind : {X : Type 0} (P : X → Type 0) (x : X) (xs : List X) → Any P xs → Any P (x ∷ xs)
any_behind P x xs any = (suc any.0, any.1, omega (arith, any.2), any.3, any.4)

any_after : {X : Type 0} (P : X → Type 0) (xs ys : List X) → Any P ys → Any P (xs ++ ys)
any_after P [] ys any = any
any_after P (x ∷ xs) ys any = any_behind P x (xs ++ ys) (any_after P xs ys any)

-- ---- flights

-- that of a session stands among those of all
in_flights : (all : List Serving) (place k : ℕ) (history : List HistoryEntry) (P : Flight → Type 0) (f : Flight) → P f
    → (from : ℕ) (sessions : List SessionLines) (replies : List (List Reply)) (q : ℕ) → q < length sessions → length replies ≡ length sessions
    → flights_of all place k history (from + q) (made_by (get_or sessions q no_lines).calls (get_or replies q [])) ≡ f ∷ [] → Any P (flights_from all place k history from sessions replies)
in_flights all place k history P f p from [] replies q h count is = absurd (omega arith)
in_flights all place k history P f p from (s ∷ ss) [] q h count is = absurd (omega (arith, count))
in_flights all place k history P f p from (s ∷ ss) (r ∷ rs) zero h count is =
    let n : from + 0 ≡ from = omega arith in
    let own : flights_of all place k history from (made_by s.calls r) ≡ f ∷ [] = ap (λ (n : ℕ). flights_of all place k history n (made_by s.calls r)) (sym n) ∙ is in
    subst (λ fs. Any P (fs ++ flights_from all place k history (from + 1) ss rs)) (sym own) (any_head P f (flights_from all place k history (from + 1) ss rs) p)
in_flights all place k history P f p from (s ∷ ss) (r ∷ rs) (suc q) h count is =
    let n : from + suc q ≡ from + 1 + q = omega arith in
    any_after P (flights_of all place k history from (made_by s.calls r)) (flights_from all place k history (from + 1) ss rs)
    (in_flights all place k history P f p (from + 1) ss rs q (omega arith) (omega (arith, count)) (ap (λ (n : ℕ). flights_of all place k history n (made_by (get_or ss q no_lines).calls (get_or rs q []))) (sym n) ∙ is))

one_flight : (q : ℕ) (history : List HistoryEntry) (s : Stand) (stands : List Stand) → stands ≡ s ∷ [] → stands_in q history s ≡ false → map flight (filter (λ s. not (stands_in q history s)) stands) ≡ flight s ∷ []
one_flight q history s stands is none =
    ap (λ ss. map flight (filter (λ s. not (stands_in q history s)) ss)) is ∙ ap (λ (b : Bool). map flight (cond (not b) (s ∷ []) [])) none

zero_plus : (n : ℕ) → 0 + n ≡ n
zero_plus n = omega arith

-- ---- a call that was cut has a number of its own

abbrev pub InStands : Stand → List Stand → Type 0
InStands s [] = ⊥
InStands s (t ∷ ts) = (t ≡ s) ⊎ InStands s ts

all_weaker : {X : Type 0} (P Q : X → Type 0) (xs : List X) → ((x : X) → P x → Q x) → AllByRecursion P xs → AllByRecursion Q xs
all_weaker P Q [] f a = tt
all_weaker P Q (x ∷ xs) f a = (f x a.0, all_weaker P Q xs f a.1)

as_call : (call sector : ℕ) (o : Option Act) → AllByRecursion (λ (t : Stand). t.call ≡ call) (option_to_list (stand_as call sector o))
as_call call sector None = tt
as_call call sector (Some a) = (refl, tt)

by_call : (place k : ℕ) (m : Made) (o : Option Spot) → AllByRecursion (λ (t : Stand). t.call ≡ m.call) (option_to_list (stand_by place k m o))
by_call place k m None = tt
by_call place k m (Some spot) = either_way ((spot.place == place) && (spot.arena == k))
  where
    either_way : (b : Bool) → AllByRecursion (λ (t : Stand). t.call ≡ m.call) (option_to_list (if b then stand_as m.call spot.own (act_for m.line m.reply spot.shape) else None))
    either_way true = as_call m.call spot.own (act_for m.line m.reply spot.shape)
    either_way false = tt

cons_all : {X : Type 0} (P : X → Type 0) (o : Option X) (xs : List X) → AllByRecursion P (option_to_list o) → AllByRecursion P xs → AllByRecursion P (cons_option o xs)
cons_all P None xs a b = b
cons_all P (Some x) xs a b = (a.0, b)

-- numbers of calls rise
numbers_from : (all : List Serving) (place k : ℕ) (test : Made → Bool) (n : ℕ) (on : Option (List ℕ)) (lines : List Line) (replies : List Reply)
    → AllByRecursion (λ (t : Stand). n ≤ t.call) (stands_of all place k (filter test (made_from n on lines replies)))
numbers_from all place k test n on lines [] = tt
numbers_from all place k test n on [] (r ∷ rs) = tt
numbers_from all place k test n on (l ∷ ls) (r ∷ rs) =
    kept (test (made n on l r)) (all_weaker (λ (t : Stand). n + 1 ≤ t.call) (λ (t : Stand). n ≤ t.call) (stands_of all place k (filter test (made_from (n + 1) (on_after on l r) ls rs))) (λ t h. omega (arith, h)) (numbers_from all place k test (n + 1) (on_after on l r) ls rs))
  where
    kept : (b : Bool) → AllByRecursion (λ (t : Stand). n ≤ t.call) (stands_of all place k (filter test (made_from (n + 1) (on_after on l r) ls rs))) → AllByRecursion (λ (t : Stand). n ≤ t.call) (stands_of all place k (cond b (made n on l r ∷ filter test (made_from (n + 1) (on_after on l r) ls rs)) (filter test (made_from (n + 1) (on_after on l r) ls rs))))
    kept true h = cons_all (λ (t : Stand). n ≤ t.call) (stand_of all place k (made n on l r)) _ (all_weaker (λ (t : Stand). t.call ≡ n) (λ (t : Stand). n ≤ t.call) (option_to_list (stand_of all place k (made n on l r))) (λ t e. omega (arith, e)) (by_call place k (made n on l r) (spot_of all (made n on l r)))) h
    kept false h = h

none_equal : (c : ℕ) (ts : List Stand) → AllByRecursion (λ (t : Stand). t.call ≢ c) ts → list_any (λ (t : Stand). t.call == c) ts ≡ false
none_equal c [] a = refl
none_equal c (t ∷ ts) a = ap (λ (b : Bool). b || list_any (λ (t : Stand). t.call == c) ts) (ne_eqb t.call c a.0) ∙ none_equal c ts a.1

member : (P : Stand → Type 0) (ts : List Stand) (s : Stand) → AllByRecursion P ts → InStands s ts → P s
member P [] s a i = absurd i
member P (t ∷ ts) s a (inl e) = subst P e a.0
member P (t ∷ ts) s a (inr i) = member P ts s a.1 i

in_cons : (o : Option Stand) (ts : List Stand) (s : Stand) → InStands s (cons_option o ts) → InStands s (option_to_list o) ⊎ InStands s ts
in_cons None ts s i = inr i
in_cons (Some t) ts s (inl e) = inl (inl e)
in_cons (Some t) ts s (inr i) = inr i

-- no other call has the number of one that was cut
apart : (all : List Serving) (place k n : ℕ) (on : Option (List ℕ)) (lines : List Line) (replies : List Reply) (s : Stand) → InStands s (stands_of all place k (cut_of (made_from n on lines replies)))
    → AllByRecursion (λ (t : Stand). t.call ≢ s.call) (stands_of all place k (uncut (made_from n on lines replies)))
apart all place k n on lines [] s i = tt
apart all place k n on [] (r ∷ rs) s i = tt
apart all place k n on (l ∷ ls) (r ∷ rs) s i = by (is_cut r) i (apart all place k (n + 1) (on_after on l r) ls rs s)
  where
    by : (b : Bool) → InStands s (stands_of all place k (cond b (made n on l r ∷ cut_of (made_from (n + 1) (on_after on l r) ls rs)) (cut_of (made_from (n + 1) (on_after on l r) ls rs))))
        → (InStands s (stands_of all place k (cut_of (made_from (n + 1) (on_after on l r) ls rs))) → AllByRecursion (λ (t : Stand). t.call ≢ s.call) (stands_of all place k (uncut (made_from (n + 1) (on_after on l r) ls rs))))
        → AllByRecursion (λ (t : Stand). t.call ≢ s.call) (stands_of all place k (cond (not b) (made n on l r ∷ uncut (made_from (n + 1) (on_after on l r) ls rs)) (uncut (made_from (n + 1) (on_after on l r) ls rs))))
    by true i f = here (in_cons (stand_of all place k (made n on l r)) (stands_of all place k (cut_of (made_from (n + 1) (on_after on l r) ls rs))) s i)
      where
        here : InStands s (option_to_list (stand_of all place k (made n on l r))) ⊎ InStands s (stands_of all place k (cut_of (made_from (n + 1) (on_after on l r) ls rs))) → AllByRecursion (λ (t : Stand). t.call ≢ s.call) (stands_of all place k (uncut (made_from (n + 1) (on_after on l r) ls rs)))
        here (inl j) =
            let is : s.call ≡ n = member (λ (t : Stand). t.call ≡ n) (option_to_list (stand_of all place k (made n on l r))) s (by_call place k (made n on l r) (spot_of all (made n on l r))) j in
            all_weaker (λ (t : Stand). n + 1 ≤ t.call) (λ (t : Stand). t.call ≢ s.call) (stands_of all place k (uncut (made_from (n + 1) (on_after on l r) ls rs))) (λ t h. omega (arith, h, is)) (numbers_from all place k (λ (m : Made). not (is_cut m.reply)) (n + 1) (on_after on l r) ls rs)
        here (inr j) = f j
    by false i f =
        let above : n + 1 ≤ s.call = member (λ (t : Stand). n + 1 ≤ t.call) (stands_of all place k (cut_of (made_from (n + 1) (on_after on l r) ls rs))) s (numbers_from all place k (λ (m : Made). is_cut m.reply) (n + 1) (on_after on l r) ls rs) i in
        cons_all (λ (t : Stand). t.call ≢ s.call) (stand_of all place k (made n on l r)) (stands_of all place k (uncut (made_from (n + 1) (on_after on l r) ls rs)))
        (all_weaker (λ (t : Stand). t.call ≡ n) (λ (t : Stand). t.call ≢ s.call) (option_to_list (stand_of all place k (made n on l r))) (λ t e. omega (arith, e, above)) (by_call place k (made n on l r) (spot_of all (made n on l r)))) (f i)

-- whether a call stands, by the session's own entries
own_any : (q c : ℕ) (history : List HistoryEntry) → list_any (λ (e : HistoryEntry). (e.tag.session == q) && (e.tag.call == c)) history ≡ list_any (λ (t : Stand). t.call == c) (own_stands q history)
unfolding of_session
own_any q c [] = refl
own_any q c (e ∷ es) = by (e.tag.session == q) (own_any q c es)
  where
    by : (b : Bool) → list_any (λ (e : HistoryEntry). (e.tag.session == q) && (e.tag.call == c)) es ≡ list_any (λ (t : Stand). t.call == c) (own_stands q es)
        → ((b && (e.tag.call == c)) || list_any (λ (e : HistoryEntry). (e.tag.session == q) && (e.tag.call == c)) es)
        ≡ list_any (λ (t : Stand). t.call == c) (map stand (cond b (e ∷ filter (λ (e : HistoryEntry). e.tag.session == q) es) (filter (λ (e : HistoryEntry). e.tag.session == q) es)))
    by true h = ap (λ (b : Bool). (e.tag.call == c) || b) h
    by false h = h

not_standing : (all : List Serving) (place k q : ℕ) (history : List HistoryEntry) (lines : List Line) (replies : List Reply) (s : Stand) → stands_of all place k (cut_of (made_by lines replies)) ≡ s ∷ []
    → own_stands q history ≡ stands_of all place k (uncut (made_by lines replies)) → stands_in q history s ≡ false
not_standing all place k q history lines replies s is own =
    own_any q s.call history ∙ ap (λ ts. list_any (λ (t : Stand). t.call == s.call) ts) own
    ∙ none_equal s.call (stands_of all place k (uncut (made_by lines replies))) (apart all place k 0 None lines replies s (subst (InStands s) (sym is) (inl refl)))

pub survival_follows : SurvivalFollows
survival_follows all script replies journal room histories calls power count closed done place k is opening left n core sector inside = by (core sector inside)
  where
    by : (left sector ≡ end_of opening (histories place k) sector) ⊎ Any (IsFlying sector (left sector)) (calls place k)
        → (left sector ≡ end_of opening (histories place k) sector) ⊎ Any (IsLeftBy sector (left sector)) (flights_on all place k script replies histories)
    by (inl e) = inl e
    by (inr any) =
        let l : InCall = any.1 in
        let q : ℕ = l.tag.session in
        let there : q < length script.sessions = at_index (λ (l : InCall). l.tag.session < length script.sessions) (calls place k) any.0 l (closed.no_call place k is) any.2 any.3 in
        let d = done q there in
        let mine : IsOfCut all place k (made_by (session_at script q).calls (replies_at replies q)) (own_stands q (histories place k)) l =
        among_kept (IsOfCut all place k (made_by (session_at script q).calls (replies_at replies q)) (own_stands q (histories place k))) (λ (l : InCall). l.tag.session == q) (calls place k) any.0 l (d.in_call place k is) any.2 any.3 (eq-eqb l.tag.session q refl) in
        let flying = any.4 in
        let a : Act = flying.0 in
        let s : Stand = record { call = l.tag.call; sector = l.sector; act = a } in
        let own : flights_of all place k (histories place k) q (made_by (session_at script q).calls (replies_at replies q)) ≡ flight s ∷ [] =
        one_flight q (histories place k) s (stands_of all place k (cut_of (made_by (session_at script q).calls (replies_at replies q)))) (mine.call a flying.1) (not_standing all place k q (histories place k) (session_at script q).calls (replies_at replies q) s (mine.call a flying.1) (mine.not_yet flying.3)) in
        inr (in_flights all place k (histories place k) (IsLeftBy sector (left sector)) (flight s) (flying.2, flying.4) 0 script.sessions replies q there count
        (ap (λ (n : ℕ). flights_of all place k (histories place k) n (made_by (session_at script q).calls (replies_at replies q))) (zero_plus q) ∙ own))
