-- Closed locks and sessions that are done give the accounts.
use Rattle.std.proofs.Common.{◌≡◌, ◌⊎◌, inl, inr, ℕ, zero, suc, ◌<◌, ◌≤◌, Bool, true, false, List, [], ◌∷◌, length, Option, Some, None, refl, sym, ap, ◌∙◌, arith}
use Rattle.std.specs.Prelude.{◌==◌, ◌||◌, IsTrue, IsSome, cond, filter, map}
use Rattle.std.specs.List.{list_any, AllByRecursion}
use Rattle.namespace_ops.specs.Entries.{JournalEntry}
use Rattle.session_account.specs.declared.reply.Reply.{Reply}
use Rattle.session_script.specs.declared.script.Script.{Script}
use Rattle.session_script.specs.declared.script.SessionLines.{SessionLines}
use Rattle.lane_core.specs.History.{of_session}
use Rattle.session_account.specs.Made.{has_cut}
use Rattle.namespace_ops.specs.Carried as answer
use Rattle.session_account.specs.Account.{has_cut_entry, replies_at, session_at, CutItself, CutInCommand}
use Rattle.session_account.specs.Orders.{own_entries}
use Rattle.session_account.specs.Sectors.{stand}
use Rattle.session_account.specs.Parts.{Who, itself, labels, HasCause, AccountsFollow}

pub either : (a b : ℕ) → (a < b) ⊎ (b ≤ a)
either a zero = inr (omega arith)
either zero (suc b) = inl (omega arith)
either (suc a) (suc b) = next (either a b)
  where
    next : (a < b) ⊎ (b ≤ a) → (suc a < suc b) ⊎ (suc b ≤ suc a)
    next (inl h) = inl (omega arith)
    next (inr h) = inr (omega arith)

-- ---- strangers

drop_head : {X : Type 0} (b : Bool) (x : X) (xs : List X) → cond b (x ∷ xs) xs ≡ [] → xs ≡ []
drop_head true x xs h = absurd (cc)
drop_head false x xs h = h

not_head : {X : Type 0} (b : Bool) (x : X) (xs : List X) → cond b (x ∷ xs) xs ≡ [] → b ≡ false
not_head true x xs h = absurd (cc)
not_head false x xs h = refl

pub none_from : {X : Type 0} (key : X → ℕ) (n : ℕ) (xs : List X) → ((q : ℕ) → n ≤ q → filter (λ x. key x == q) xs ≡ []) → AllByRecursion (λ x. key x < n) xs
none_from key n [] none = tt
none_from key n (x ∷ xs) none = (below (either (key x) n), none_from key n xs (λ q h. drop_head (key x == q) x (filter (λ y. key y == q) xs) (none q h)))
  where
    below : (key x < n) ⊎ (n ≤ key x) → key x < n
    below (inl h) = h
    below (inr h) = let e : (key x == key x) ≡ false = not_head (key x == key x) x (filter (λ y. key y == key x) xs) (none (key x) h) in absurd (grind (arith, e))

pub map_none : {X Y : Type 0} (f : X → Y) (xs : List X) → map f xs ≡ [] → xs ≡ []
map_none f [] h = refl
map_none f (x ∷ xs) h = absurd (cc)

-- ---- causes

-- what passes a test among those that a filter keeps passes it among all
pub any_kept : {X : Type 0} (keeps test : X → Bool) (xs : List X) → list_any test (filter keeps xs) ≡ true → list_any test xs ≡ true
any_kept keeps test [] h = h
any_kept keeps test (x ∷ xs) h = on_head (keeps x) (test x) (list_any test (filter keeps xs)) (list_any test xs) (any_kept keeps test xs) (sym (pushed (keeps x) (filter keeps xs)) ∙ h)
  where
    -- whether some one passes, by whether the head is kept
    heads : Bool → Bool → Bool → Bool
    heads true t a = t || a
    heads false t a = a

    pushed : (k : Bool) (kept : List _) → list_any test (cond k (x ∷ kept) kept) ≡ heads k (test x) (list_any test kept)
    pushed true kept = refl
    pushed false kept = refl

    on_head : (k t a b : Bool) → (a ≡ true → b ≡ true) → heads k t a ≡ true → (t || b) ≡ true
    on_head k true a b f h = refl
    on_head true false a b f h = f h
    on_head false false a b f h = f h

-- a session's cause is one of the accounts
cause_of : (script : Script) (session : SessionLines) (replies : List Reply) (own : List JournalEntry) (who : Option Who) → IsSome who → HasCause script session replies own who
    → (IsSome session.cut × IsTrue (has_cut replies)) ⊎ (IsSome script.labelcut × IsTrue (has_cut_entry own))
cause_of script session replies own None some c = absurd (cc)
cause_of script session replies own (Some itself) some c = inl c
cause_of script session replies own (Some labels) some c = inr c

no_replies : (replies : List (List Reply)) (q : ℕ) → length replies ≤ q → replies_at replies q ≡ []
no_replies [] q h = refl
no_replies (r ∷ rs) zero h = absurd (omega arith)
no_replies (r ∷ rs) (suc q) h = no_replies rs q (omega arith)

pub accounts_follow : AccountsFollow
unfolding of_session
accounts_follow all script replies journal room histories calls power count closed done = record {
  count = count;
  each = λ q h. let d = done q h in record { cut_last = d.cut_last; in_time = d.in_time; checked = d.checked; kinds = d.kinds; commands = d.commands; arenas = d.arenas };
  cause = λ q cut. here q cut (either q (length script.sessions));
  no_entry = none_from (λ e. e.tag.session) (length script.sessions) journal closed.no_entry;
  no_stand = λ place k is. none_from (λ e. e.tag.session) (length script.sessions) (histories place k) (λ q h. map_none stand _ (closed.no_stand place k q is h));
}
  where
    found : (r : ℕ) → r < length script.sessions → (IsSome (session_at script r).cut × IsTrue (has_cut (replies_at replies r))) ⊎ (IsSome script.labelcut × IsTrue (has_cut_entry (own_entries r journal)))
        → ((r : ℕ) × CutItself script replies r) ⊎ CutInCommand script journal
    found r h (inl c) = inl (r, (h, c.0, c.1))
    found r h (inr c) = inr (c.0, any_kept (λ e. e.tag.session == r) (λ e. answer.is_cut e.reply) journal c.1)

    here : (q : ℕ) → IsTrue (has_cut (replies_at replies q)) → (q < length script.sessions) ⊎ (length script.sessions ≤ q) → ((r : ℕ) × CutItself script replies r) ⊎ CutInCommand script journal
    here q cut (inl h) =
        let t = closed.told q ((done q h).told cut) in
        found t.0 t.1 (cause_of script (session_at script t.0) (replies_at replies t.0) (own_entries t.0 journal) (power t.0).stopped t.2 (done t.0 t.1).stopped)
    here q cut (inr h) =
        let e : has_cut (replies_at replies q) ≡ false = ap has_cut (no_replies replies q (omega (arith, count, h))) in
        absurd (cc)
