-- A journal of one entry more.
use Rattle.std.proofs.Common.{◌≡◌, ◌≢◌, false, ◌++◌, List, [], ◌∷◌, Err, refl, sym, ap, ◌∙◌, subst}
use Rattle.std.specs.List.{AllByRecursion}
use Rattle.nvd_words.specs.Checks.{value_unless}
use Rattle.nfit_reader.specs.declared.table.Mapping.{Mapping}
use Rattle.namespace_map.specs.Namespaces.{Namespaces}
use Rattle.namespace_map.specs.declared.refused.OpRefused.TheVariants.{OutOfMemory}
use Rattle.namespace_map.specs.Commands.{refusal_of}
use Rattle.namespace_ops.specs.Carried.{is_cut}
use Rattle.namespace_ops.specs.Entries.{JournalEntry}
use Rattle.namespace_ops.specs.Replay.{after_entry, replayed, AreReplies, Gives, Kept, kept_after, namespaces_with, remade}

pub all_more : {X : Type 0} (P : X → Type 0) (xs : List X) (x : X) → AllByRecursion P xs → P x → AllByRecursion P (xs ++ x ∷ [])
all_more P [] x all one = (one, tt)
all_more P (y ∷ ys) x (first, rest) one = (first, all_more P ys x rest one)

replayed_more : (ns : Namespaces) (es : List JournalEntry) (e : JournalEntry) → replayed ns (es ++ e ∷ []) ≡ after_entry (replayed ns es) e
unfolding replayed
replayed_more ns [] e = refl
replayed_more ns (x ∷ es) e = replayed_more (after_entry ns x) es e

remade_more : (sets : List (List Mapping)) (k : Kept) (es : List JournalEntry) (e : JournalEntry) → remade sets k (es ++ e ∷ []) ≡ kept_after sets (remade sets k es) e
unfolding remade
remade_more sets k [] e = refl
remade_more sets k (x ∷ es) e = remade_more sets (kept_after sets k x) es e

-- the reply of an entry is that of its command's step
abbrev pub IsReply : Namespaces → JournalEntry → Type 0
IsReply ns e = e.reply ≢ Err OutOfMemory → e.reply ≡ value_unless tt (refusal_of ns e.command)

replies_more : (ns : Namespaces) (es : List JournalEntry) (e : JournalEntry) → AreReplies ns es → IsReply (replayed ns es) e → AreReplies ns (es ++ e ∷ [])
unfolding AreReplies replayed
replies_more ns [] e all one = (one, tt)
replies_more ns (x ∷ es) e (first, rest) one = (first, replies_more (after_entry ns x) es e rest one)

pub gives_none : (sets : List (List Mapping)) (k : Kept) → Gives sets k [] k
unfolding replayed AreReplies remade
gives_none sets k = record { replay = refl; replies = tt; changes = refl; uncut = tt }

pub gives_more : (sets : List (List Mapping)) (from k k' : Kept) (es : List JournalEntry) (e : JournalEntry) → Gives sets from es k → after_entry (namespaces_with sets k) e ≡ namespaces_with sets k' → IsReply (namespaces_with sets k) e
    → kept_after sets k e ≡ k' → is_cut e.reply ≡ false → Gives sets from (es ++ e ∷ []) k'
gives_more sets from k k' es e gives map_is reply kept uncut = record {
  replay = replayed_more (namespaces_with sets from) es e ∙ ap (λ (ns : Namespaces). after_entry ns e) gives.replay ∙ map_is;
  replies = replies_more (namespaces_with sets from) es e gives.replies (subst (λ (ns : Namespaces). IsReply ns e) (sym gives.replay) reply);
  changes = remade_more sets from es e ∙ ap (λ (x : Kept). kept_after sets x e) gives.changes ∙ kept;
  uncut = all_more _ es e gives.uncut uncut;
}
