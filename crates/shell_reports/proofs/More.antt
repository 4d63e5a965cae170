-- Properties of an answer.
use Rattle.std.proofs.Common.{◌≡◌, Result, Ok, Err, ap}
use Rattle.std.specs.Prelude.{IfOk}
use Rattle.shell_reports.specs.Outcome.{Outcome}

-- a property of an answer implies a weaker one
pub if_more : {A E : Type 0} (P Q : A → Type 0) (r : Result A E) → ((x : A) → P x → Q x) → IfOk r P → IfOk r Q
if_more P Q (Ok x) more holds = more x holds
if_more P Q (Err e) more holds = tt

-- two imply a third
pub if_both : {A E : Type 0} (P Q R : A → Type 0) (r : Result A E) → ((x : A) → P x → Q x → R x) → IfOk r P → IfOk r Q → IfOk r R
if_both P Q R (Ok x) both p q = both x p q
if_both P Q R (Err e) both p q = tt

pub ending_of : (a b : Outcome) → a ≡ b → a.ending ≡ b.ending
ending_of a b is = ap (λ (o : Outcome). o.ending) is
