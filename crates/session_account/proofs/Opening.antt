-- The namespace that a session's entries leave open is the one that its replies say.
use Rattle.std.proofs.Common.{◌≡◌, ℕ, ◌+◌, false, List, [], ◌∷◌, Option, Some, None, refl, ap, ◌∙◌, option_map}
use Rattle.std.specs.Prelude.{option_to_list}
use Rattle.std.specs.List.{cons_option, AllByRecursion}
use Rattle.namespace_map.specs.declared.commands.Command.{Command}
use Rattle.namespace_map.specs.declared.commands.Command.TheVariants as command
use Rattle.namespace_map.specs.declared.refused.OpRefused.{OpRefused}
use Rattle.namespace_map.specs.declared.refused.OpRefused.TheVariants as op
use Rattle.namespace_ops.specs.Entries.{JournalEntry}
use Rattle.session_script.specs.declared.script.Line.{Line}
use Rattle.session_script.specs.declared.script.Line.TheVariants as line
use Rattle.session_script.specs.declared.script.Order.TheVariants as order
use Rattle.session_account.specs.declared.reply.Reply.{Reply}
use Rattle.session_account.specs.declared.reply.Reply.TheVariants as reply
use Rattle.session_account.specs.Serving.{Serving}
use Rattle.session_account.specs.Made.{made, made_from, on_after, on_from, is_cut}
use Rattle.session_account.specs.Orders.{answer_of, entry, entries_for, entry_for}
use Rattle.session_account.specs.Sectors.{ChecksExactly}
use Rattle.session_account.specs.Parts.{open_after, open_done, OpenFollows}

-- ---- a command's entry, by its reply

refused_so : (q call : ℕ) (on : Option (List ℕ)) (c : Command) (f : OpRefused) → open_after on (option_to_list (option_map (entry q call c) (answer_of (reply.Op f)))) ≡ on
refused_so q call on c op.NoSuch = refl
refused_so q call on c op.Exists = refl
refused_so q call on c (op.NoRegion n) = refl
refused_so q call on c (op.NoSpace n) = refl
refused_so q call on c (op.NoSlot n) = refl
refused_so q call on c (op.Busy n) = refl
refused_so q call on c op.NotComplete = refl
refused_so q call on c op.NotSector = refl
refused_so q call on c (op.BadSize n) = refl
refused_so q call on c (op.BadName n) = refl
refused_so q call on c (op.ModuleLabels n) = refl
refused_so q call on c (op.ReadOnlyLabel n) = refl
refused_so q call on c op.PowerCut = refl
refused_so q call on c op.OutOfMemory = refl

abbrev pub if_done : {X : Type 0} → Reply → X → X → X
if_done reply.Done x y = x
if_done other x y = y

effect : (q call : ℕ) (on : Option (List ℕ)) (c : Command) (r : Reply) → open_after on (option_to_list (option_map (entry q call c) (answer_of r))) ≡ if_done r (open_done on c) on
effect q call on c reply.Done = refl
effect q call on c (reply.Value x) = refl
effect q call on c (reply.Range n) = refl
effect q call on c (reply.Length a b) = refl
effect q call on c reply.NotOpen = refl
effect q call on c reply.IsOpen = refl
effect q call on c (reply.Op f) = refused_so q call on c f
effect q call on c reply.Cut = refl

done_same : {X : Type 0} (r : Reply) (x : X) → if_done r x x ≡ x
done_same reply.Done x = refl
done_same (reply.Value c) x = refl
done_same (reply.Range n) x = refl
done_same (reply.Length a b) x = refl
done_same reply.NotOpen x = refl
done_same reply.IsOpen x = refl
done_same (reply.Op f) x = refl
done_same reply.Cut x = refl

open_reply : (u : List ℕ) (r : Reply) → if_done r (Some u) None ≡ on_after None (line.Order (order.Open u)) r
open_reply u reply.Done = refl
open_reply u (reply.Value x) = refl
open_reply u (reply.Range n) = refl
open_reply u (reply.Length a b) = refl
open_reply u reply.NotOpen = refl
open_reply u reply.IsOpen = refl
open_reply u (reply.Op f) = refl
open_reply u reply.Cut = refl

close_reply : (h : List ℕ) (r : Reply) → if_done r None (Some h) ≡ on_after (Some h) (line.Order order.Close) r
close_reply h reply.Done = refl
close_reply h (reply.Value x) = refl
close_reply h (reply.Range n) = refl
close_reply h (reply.Length a b) = refl
close_reply h reply.NotOpen = refl
close_reply h reply.IsOpen = refl
close_reply h (reply.Op f) = refl
close_reply h reply.Cut = refl

no_close : (r : Reply) → None ≡ on_after None (line.Order order.Close) r
no_close reply.Done = refl
no_close (reply.Value x) = refl
no_close (reply.Range n) = refl
no_close (reply.Length a b) = refl
no_close reply.NotOpen = refl
no_close reply.IsOpen = refl
no_close (reply.Op f) = refl
no_close reply.Cut = refl

no_open : (h u : List ℕ) (r : Reply) → (is_cut r ≡ false → r ≡ reply.IsOpen) → Some h ≡ on_after (Some h) (line.Order (order.Open u)) r
no_open h u reply.Done e = let x : reply.Done ≡ reply.IsOpen = e refl in absurd (cc)
no_open h u (reply.Value x) e = refl
no_open h u (reply.Range n) e = refl
no_open h u (reply.Length a b) e = refl
no_open h u reply.NotOpen e = refl
no_open h u reply.IsOpen e = refl
no_open h u (reply.Op f) e = refl
no_open h u reply.Cut e = refl

-- ---- one call

one : (all : List Serving) (q call : ℕ) (on : Option (List ℕ)) (l : Line) (r : Reply) → ChecksExactly all (made call on l r) → open_after on (option_to_list (entry_for q (made call on l r))) ≡ on_after on l r
one all q call on (line.Read s) r h = refl
one all q call on (line.Write s v) r h = refl
one all q call None (line.Order (order.Open u)) r h = effect q call None (command.Claim u) r ∙ open_reply u r
one all q call (Some held) (line.Order (order.Open u)) r h = no_open held u r h
one all q call None (line.Order order.Close) r h = no_close r
one all q call (Some held) (line.Order order.Close) r h = effect q call (Some held) (command.Unclaim held) r ∙ close_reply held r
one all q call on (line.Order (order.Create u region size name)) r h = effect q call on _ r ∙ done_same r on
one all q call on (line.Order (order.Delete u)) r h = effect q call on _ r ∙ done_same r on
one all q call on (line.Order (order.Rename u name)) r h = effect q call on _ r ∙ done_same r on

open_cons : (on : Option (List ℕ)) (o : Option JournalEntry) (es : List JournalEntry) → open_after on (cons_option o es) ≡ open_after (open_after on (option_to_list o)) es
open_cons on None es = refl
open_cons on (Some e) es = refl

follows_from : (all : List Serving) (q call : ℕ) (on : Option (List ℕ)) (lines : List Line) (replies : List Reply) → AllByRecursion (ChecksExactly all) (made_from call on lines replies)
    → open_after on (entries_for q (made_from call on lines replies)) ≡ on_from on lines replies
follows_from all q call on lines [] checked = refl
follows_from all q call on [] (r ∷ rs) checked = refl
follows_from all q call on (l ∷ ls) (r ∷ rs) checked =
    open_cons on (entry_for q (made call on l r)) (entries_for q (made_from (call + 1) (on_after on l r) ls rs))
    ∙ ap (λ (o : Option (List ℕ)). open_after o (entries_for q (made_from (call + 1) (on_after on l r) ls rs))) (one all q call on l r checked.0)
    ∙ follows_from all q (call + 1) (on_after on l r) ls rs checked.1

pub open_follows : OpenFollows
open_follows all q lines replies checked = follows_from all q 0 None lines replies checked
