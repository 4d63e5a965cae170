-- The groups of an arena's lanes that are refused.
use Rattle.std.proofs.Common.{◌≡◌, ℕ, ◌+◌, List, [], ◌++◌, Option, Some, None, Result, Ok, Err, ap, ◌∙◌, sym, subst, arith}
use Rattle.std.specs.Prelude.{IfOk, IfSome, OnOk}
use Rattle.std.specs.Option.{option_map}
use Rattle.std.specs.List.{cons_option, range_with_len}
use Rattle.std.proofs.lemmas.List.Elements.{filter_map-append}
use Rattle.arena_layout.specs.declared.layout.Layout.{Layout}
use Rattle.flog.specs.Group.{group_reading}
use Rattle.arena_open.specs.Places.{group_words}
use Rattle.arena_open.proofs.Ranges.{range-append}
use Rattle.arena_check.specs.Check.{flog_findings_of, group_finding}
use Rattle.shell_check.specs.declared.log.LogRead.{LogRead}
use Rattle.shell_check.specs.declared.arena.MapPut.{MapPut}
use Rattle.shell_check.specs.Reading.{IsLogRead, put_of}

-- one lane more
pub lane_more : (l : Layout) (words : List ℕ) (n : ℕ) → flog_findings_of l words (range_with_len 0 n) ++ cons_option (group_finding n (group_reading (group_words l words n) l.external l.internal)) []
    ≡ flog_findings_of l words (range_with_len 0 (n + 1))
lane_more l words n =
    sym (filter_map-append (λ lane. group_finding lane (group_reading (group_words l words lane) l.external l.internal)) (range_with_len 0 n) (range_with_len n 1))
    ∙ ap (flog_findings_of l words) (ap (λ (m : ℕ). range_with_len 0 n ++ range_with_len m 1) (let e : n ≡ 0 + n = omega arith in e) ∙ range-append 0 n 1)

-- ---- what was read, of these words

pub ok_is : {A E : Type 0} (P : A → Type 0) (r : Result A E) (x : A) → r ≡ Ok x → IfOk r P → P x
ok_is {A} {E} P r x is holds = subst (λ (q : Result A E). IfOk q P) is holds

pub log_as : {E : Type 0} (l : Layout) (own words : List ℕ) → words ≡ own → (r : Result LogRead E) (read : LogRead) → r ≡ Ok read → IfOk r (IsLogRead l own) → IsLogRead l words read
log_as l own words same r read is holds = subst (λ (ws : List ℕ). IsLogRead l ws read) (sym same) (ok_is (IsLogRead l own) r read is holds)

-- ---- what holds of any answer

pub some_any : {A : Type 0} (o : Option A) (P : Type 0) → P → IfSome o (λ _. P)
some_any (Some x) P holds = holds
some_any None P holds = tt

pub some_more : {A : Type 0} (P Q : A → Type 0) (o : Option A) → ((x : A) → P x → Q x) → IfSome o P → IfSome o Q
some_more P Q (Some x) more holds = more x holds
some_more P Q None more holds = tt

-- a map that is put, and the layout of its arena
pub put_small : (l : Layout) (P : Layout → Type 0) (o : Option (List ℕ)) (m : Option MapPut) → m ≡ option_map (put_of l) o → IfSome o (λ _. P l) → IfSome m (λ put. P put.layout)
put_small l P (Some entries) m is holds = subst (λ (x : Option MapPut). IfSome x (λ put. P put.layout)) (sym is) holds
put_small l P None m is holds = subst (λ (x : Option MapPut). IfSome x (λ put. P put.layout)) (sym is) tt

pub if_ok_both : {A E : Type 0} (P : A → Type 0) (Q : Type 0) (R : A → Type 0) (r : Result A E) → ((x : A) → Q → P x → R x) → OnOk r Q → IfOk r P → IfOk r R
if_ok_both P Q R (Ok x) both q p = both x q p
if_ok_both P Q R (Err e) both q p = tt

pub on_more : {A E : Type 0} (r : Result A E) (P Q : Type 0) → (P → Q) → OnOk r P → OnOk r Q
on_more (Ok x) P Q more holds = more holds
on_more (Err e) P Q more holds = tt

pub on_ok_is : {A E : Type 0} (r : Result A E) (x : A) (P : Type 0) → r ≡ Ok x → OnOk r P → P
on_ok_is {A} {E} r x P is holds = subst (λ (q : Result A E). OnOk q P) is holds
