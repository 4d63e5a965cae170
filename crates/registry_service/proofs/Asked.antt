-- An order, the command that it asks, and the entry that stands for it.
use Rattle.std.proofs.Common.{◌≡◌, ℕ, ◌-◌, true, false, List, [], ◌∷◌, ◌++◌, length, Option, Some, None, Ok, Err, refl, sym, ap, ◌∙◌, subst, arith, option_map}
use Rattle.std.specs.Prelude.{IfOk, IsSome, Result, option_to_list, option_and_then}
use Rattle.nvd_words.specs.declared.tag.Tag.{Tag}
use Rattle.namespace_map.specs.declared.commands.Command.{Command}
use Rattle.namespace_map.specs.declared.refused.OpRefused.{OpRefused}
use Rattle.namespace_map.specs.declared.refused.OpRefused.TheVariants as op
use Rattle.namespace_ops.specs.Carried as ops
use Rattle.namespace_ops.specs.Entries.{JournalEntry, Reply as Answer}
use Rattle.namespace_ops.specs.Replay.{is_memory}
use Rattle.session_account.specs.Made.{is_cut, made, on_after}
use Rattle.session_account.specs.Orders.{answer_of, command_of, entry, entry_for}
use Rattle.session_account.specs.Parts.{open_with}
use Rattle.session_account.specs.Sectors.{IsChecked, is_check, is_ordered}
use Rattle.session_account.specs.declared.reply.Reply.{Reply}
use Rattle.session_account.specs.declared.reply.Reply.TheVariants as reply
use Rattle.session_script.specs.declared.script.Line.TheVariants as line
use Rattle.session_script.specs.declared.script.Order.{Order}
use Rattle.session_script.specs.declared.script.Order.TheVariants as order
use Rattle.registry_service.specs.declared.served.OrdersPart.{OrdersPart}
use Rattle.registry_service.specs.Asking.{IsAsked, check_by, told_as}
use Rattle.registry_service.specs.Parts.{HasRoom, IsOrdered, call_entry, carried, ordered}
use Rattle.registry_service.proofs.Journals.{one_answered}

-- ---- what a session is told

-- of an answer that is told: it was answered, and the entry of the reply has it; it is the reply to a command, and no check's
pub record Told (a : Answer) (r : Reply) : Type 0 where
  pub answered : is_memory a ≡ false
  pub answer : answer_of r ≡ Some a
  pub unchecked : is_check r ≡ false
  pub ordered : is_cut r ≡ false → is_ordered r ≡ true
  pub cut : ops.is_cut a ≡ is_cut r
  -- what is open goes on by the answer as by the reply
  pub opens : (held : Option (List ℕ)) (c : Command) (o : Order) → command_of held o ≡ Some c → open_with held c a ≡ on_after held (line.Order o) r

-- the value in an equation of two
some_is : (x y : Reply) → Some x ≡ Some y → x ≡ y
some_is x y e = ap (λ (o : Option Reply). value_or o x) e
  where
    value_or : Option Reply → Reply → Reply
    value_or None d = d
    value_or (Some z) d = z

not_done : (f : OpRefused) → reply.Op f ≡ reply.Done → ⊥
not_done f e = cc

cut_not_done : reply.Cut ≡ reply.Done → ⊥
cut_not_done e = cc

cut_is : true ≡ false → ⊥
cut_is e = cc

-- what a command leaves open, if it was done
open_by : Option (List ℕ) → Option Command → Option (List ℕ)
open_by held None = held
open_by held (Some c) = open_with held c (Ok tt)

done_opens : (held : Option (List ℕ)) (c : Command) (o : Order) → command_of held o ≡ Some c → open_with held c (Ok tt) ≡ on_after held (line.Order o) reply.Done
unfolding open_by
done_opens None c (order.Open uuid) is = ap (open_by None) (sym is)
done_opens (Some h) c (order.Open uuid) is = absurd (cc)
done_opens None c order.Close is = absurd (cc)
done_opens (Some h) c order.Close is = ap (open_by (Some h)) (sym is)
done_opens None c (order.Create uuid region size name) is = ap (open_by None) (sym is)
done_opens (Some h) c (order.Create uuid region size name) is = ap (open_by (Some h)) (sym is)
done_opens None c (order.Delete uuid) is = ap (open_by None) (sym is)
done_opens (Some h) c (order.Delete uuid) is = ap (open_by (Some h)) (sym is)
done_opens None c (order.Rename uuid name) is = ap (open_by None) (sym is)
done_opens (Some h) c (order.Rename uuid name) is = ap (open_by (Some h)) (sym is)

-- an order that isn't done leaves open what was
stays_after : (r : Reply) (held : Option (List ℕ)) (o : Order) → (r ≡ reply.Done → ⊥) → held ≡ on_after held (line.Order o) r
stays_after reply.Done held o ne = absurd (ne refl)
stays_after (reply.Value x) held (order.Open uuid) ne = refl
stays_after (reply.Value x) held order.Close ne = refl
stays_after (reply.Value x) held (order.Create uuid region size name) ne = refl
stays_after (reply.Value x) held (order.Delete uuid) ne = refl
stays_after (reply.Value x) held (order.Rename uuid name) ne = refl
stays_after (reply.Range n) held (order.Open uuid) ne = refl
stays_after (reply.Range n) held order.Close ne = refl
stays_after (reply.Range n) held (order.Create uuid region size name) ne = refl
stays_after (reply.Range n) held (order.Delete uuid) ne = refl
stays_after (reply.Range n) held (order.Rename uuid name) ne = refl
stays_after (reply.Length a b) held (order.Open uuid) ne = refl
stays_after (reply.Length a b) held order.Close ne = refl
stays_after (reply.Length a b) held (order.Create uuid region size name) ne = refl
stays_after (reply.Length a b) held (order.Delete uuid) ne = refl
stays_after (reply.Length a b) held (order.Rename uuid name) ne = refl
stays_after reply.NotOpen held (order.Open uuid) ne = refl
stays_after reply.NotOpen held order.Close ne = refl
stays_after reply.NotOpen held (order.Create uuid region size name) ne = refl
stays_after reply.NotOpen held (order.Delete uuid) ne = refl
stays_after reply.NotOpen held (order.Rename uuid name) ne = refl
stays_after reply.IsOpen held (order.Open uuid) ne = refl
stays_after reply.IsOpen held order.Close ne = refl
stays_after reply.IsOpen held (order.Create uuid region size name) ne = refl
stays_after reply.IsOpen held (order.Delete uuid) ne = refl
stays_after reply.IsOpen held (order.Rename uuid name) ne = refl
stays_after (reply.Op f) held (order.Open uuid) ne = refl
stays_after (reply.Op f) held order.Close ne = refl
stays_after (reply.Op f) held (order.Create uuid region size name) ne = refl
stays_after (reply.Op f) held (order.Delete uuid) ne = refl
stays_after (reply.Op f) held (order.Rename uuid name) ne = refl
stays_after reply.Cut held (order.Open uuid) ne = refl
stays_after reply.Cut held order.Close ne = refl
stays_after reply.Cut held (order.Create uuid region size name) ne = refl
stays_after reply.Cut held (order.Delete uuid) ne = refl
stays_after reply.Cut held (order.Rename uuid name) ne = refl

told_refused : (f : OpRefused) (r : Reply) → told_as (Err f) ≡ Some r → Told (Err f) r
told_refused op.NoSuch r is = subst (Told (Err op.NoSuch)) (some_is (reply.Op op.NoSuch) r is) (record { answered = refl; answer = refl; unchecked = refl; ordered = λ _. refl; cut = refl; opens = λ held c o _. stays_after (reply.Op op.NoSuch) held o (λ e. not_done op.NoSuch e) })
told_refused op.Exists r is = subst (Told (Err op.Exists)) (some_is (reply.Op op.Exists) r is) (record { answered = refl; answer = refl; unchecked = refl; ordered = λ _. refl; cut = refl; opens = λ held c o _. stays_after (reply.Op op.Exists) held o (λ e. not_done op.Exists e) })
told_refused (op.NoRegion n) r is = subst (Told (Err (op.NoRegion n))) (some_is (reply.Op (op.NoRegion n)) r is) (record { answered = refl; answer = refl; unchecked = refl; ordered = λ _. refl; cut = refl; opens = λ held c o _. stays_after (reply.Op (op.NoRegion n)) held o (λ e. not_done (op.NoRegion n) e) })
told_refused (op.NoSpace n) r is = subst (Told (Err (op.NoSpace n))) (some_is (reply.Op (op.NoSpace n)) r is) (record { answered = refl; answer = refl; unchecked = refl; ordered = λ _. refl; cut = refl; opens = λ held c o _. stays_after (reply.Op (op.NoSpace n)) held o (λ e. not_done (op.NoSpace n) e) })
told_refused (op.NoSlot n) r is = subst (Told (Err (op.NoSlot n))) (some_is (reply.Op (op.NoSlot n)) r is) (record { answered = refl; answer = refl; unchecked = refl; ordered = λ _. refl; cut = refl; opens = λ held c o _. stays_after (reply.Op (op.NoSlot n)) held o (λ e. not_done (op.NoSlot n) e) })
told_refused (op.Busy n) r is = subst (Told (Err (op.Busy n))) (some_is (reply.Op (op.Busy n)) r is) (record { answered = refl; answer = refl; unchecked = refl; ordered = λ _. refl; cut = refl; opens = λ held c o _. stays_after (reply.Op (op.Busy n)) held o (λ e. not_done (op.Busy n) e) })
told_refused op.NotComplete r is = subst (Told (Err op.NotComplete)) (some_is (reply.Op op.NotComplete) r is) (record { answered = refl; answer = refl; unchecked = refl; ordered = λ _. refl; cut = refl; opens = λ held c o _. stays_after (reply.Op op.NotComplete) held o (λ e. not_done op.NotComplete e) })
told_refused op.NotSector r is = subst (Told (Err op.NotSector)) (some_is (reply.Op op.NotSector) r is) (record { answered = refl; answer = refl; unchecked = refl; ordered = λ _. refl; cut = refl; opens = λ held c o _. stays_after (reply.Op op.NotSector) held o (λ e. not_done op.NotSector e) })
told_refused (op.BadSize n) r is = subst (Told (Err (op.BadSize n))) (some_is (reply.Op (op.BadSize n)) r is) (record { answered = refl; answer = refl; unchecked = refl; ordered = λ _. refl; cut = refl; opens = λ held c o _. stays_after (reply.Op (op.BadSize n)) held o (λ e. not_done (op.BadSize n) e) })
told_refused (op.BadName n) r is = subst (Told (Err (op.BadName n))) (some_is (reply.Op (op.BadName n)) r is) (record { answered = refl; answer = refl; unchecked = refl; ordered = λ _. refl; cut = refl; opens = λ held c o _. stays_after (reply.Op (op.BadName n)) held o (λ e. not_done (op.BadName n) e) })
told_refused (op.ModuleLabels n) r is = subst (Told (Err (op.ModuleLabels n))) (some_is (reply.Op (op.ModuleLabels n)) r is) (record { answered = refl; answer = refl; unchecked = refl; ordered = λ _. refl; cut = refl; opens = λ held c o _. stays_after (reply.Op (op.ModuleLabels n)) held o (λ e. not_done (op.ModuleLabels n) e) })
told_refused (op.ReadOnlyLabel n) r is = subst (Told (Err (op.ReadOnlyLabel n))) (some_is (reply.Op (op.ReadOnlyLabel n)) r is) (record { answered = refl; answer = refl; unchecked = refl; ordered = λ _. refl; cut = refl; opens = λ held c o _. stays_after (reply.Op (op.ReadOnlyLabel n)) held o (λ e. not_done (op.ReadOnlyLabel n) e) })
told_refused op.PowerCut r is = subst (Told (Err op.PowerCut)) (some_is reply.Cut r is) (record { answered = refl; answer = refl; unchecked = refl; ordered = λ uncut. absurd (cut_is uncut); cut = refl; opens = λ held c o _. stays_after reply.Cut held o (λ e. cut_not_done e) })
told_refused op.OutOfMemory r is = absurd (cc)

pub told_so : (a : Answer) (r : Reply) → told_as a ≡ Some r → Told a r
told_so (Ok tt) r is = subst (Told (Ok tt)) (some_is reply.Done r is) (record { answered = refl; answer = refl; unchecked = refl; ordered = λ _. refl; cut = refl; opens = done_opens })
told_so (Err f) r is = told_refused f r is

-- ---- an order that asks a command

-- the entry that stands for it is that of the command
entry_is : (q call : ℕ) (held : Option (List ℕ)) (o : Order) (c : Command) (a : Answer) (r : Reply) → command_of held o ≡ Some c → answer_of r ≡ Some a
    → entry_for q (made call held (line.Order o) r) ≡ Some (call_entry (record { session = q; call = call }) c a)
entry_is q call held o c a r asks answer =
    ap (λ (x : Option Command). option_and_then (λ c. option_map (entry q call c) (answer_of r)) x) asks ∙ ap (λ (x : Option Answer). option_map (entry q call c) x) answer

-- a reply that isn't a check's, to a call that no check refuses
checked_none : (x : Option Reply) (r : Reply) → x ≡ None → is_check r ≡ false → IsChecked x r
checked_none None r h unchecked = unchecked
checked_none (Some y) r h unchecked = absurd (cc)

cut_answer : (r : Reply) → is_cut r ≡ true → answer_of r ≡ Some (Err op.PowerCut)
cut_answer reply.Cut h = refl
cut_answer reply.Done h = absurd (cc)
cut_answer (reply.Value x) h = absurd (cc)
cut_answer (reply.Range n) h = absurd (cc)
cut_answer (reply.Length a b) h = absurd (cc)
cut_answer reply.NotOpen h = absurd (cc)
cut_answer reply.IsOpen h = absurd (cc)
cut_answer (reply.Op f) h = absurd (cc)

module _ (tag : Tag) (o : Order) (m : OrdersPart) (room : HasRoom m) where
  pub command_ordered : (c : Command) (a : Answer) (r : Reply) (m' : OrdersPart) → IsAsked m.held o c → told_as a ≡ Some r → m' ≡ carried tag c a m → (ops.is_cut a ≡ true → IsSome m.began.labelcut)
      → IsOrdered tag.session tag.call o r m m'
  command_ordered c a r m' asked is goes cause =
      let t = told_so a r is in
      let made_is = entry_is tag.session tag.call m.held o c a r asked.asks t.answer in
      let entries : ordered tag.session tag.call o r m ≡ call_entry tag c a ∷ [] = ap (λ (x : Option JournalEntry). option_to_list x) made_is in
      let one : length (ordered tag.session tag.call o r m) ≡ 1 = ap (λ (es : List JournalEntry). length es) entries in
      let room_is : m'.room ≡ m.room - 1 = ap (λ (x : OrdersPart). x.room) goes in
      record {
        entries = ap (λ (x : OrdersPart). x.entries) goes ∙ ap (λ (es : List JournalEntry). m.entries ++ es) (one_answered (call_entry tag c a) t.answered ∙ sym entries);
        room = omega (arith, one, room_is, room);
        held = ap (λ (x : OrdersPart). x.held) goes ∙ t.opens m.held c o asked.asks;
        began = ap (λ (x : OrdersPart). x.began) goes;
        checked = checked_none (check_by m.held o) r asked.unchecked t.unchecked;
        kind = λ uncut _. t.ordered uncut;
        cause = λ cut. (cause (t.cut ∙ cut), (c, entry_is tag.session tag.call m.held o c (Err op.PowerCut) r asked.asks (cut_answer r cut)));
      }

-- what is so of a result that is there goes on to what follows from it
pub ok_goes : {X E : Type 0} (r : Result X E) (P Q : X → Type 0) → IfOk r P → ((x : X) → P x → Q x) → IfOk r Q
ok_goes (Ok x) P Q p h = h x p
ok_goes (Err e) P Q p h = tt
