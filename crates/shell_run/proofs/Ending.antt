-- How a run ends.
use Rattle.std.proofs.Common.{◌≡◌, ◌≢◌, ℕ, Bool, true, false, List, ◌++◌, Option, Some, None, refl, sym, ap, subst, inl, inr, codes}
use Rattle.std.specs.Prelude.{◌⊎◌, IsSome, IsTrue}
use Rattle.std.specs.Io.KnownBytes.{Keeps, Appends}
use Rattle.nvd_media.specs.Images.{Images, Becomes, IsUnfinished}
use Rattle.nvd_media.specs.Images.{Keeps as StillTells}
use Rattle.shell_reports.specs.declared.status.Ending.{Ending}
use Rattle.shell_reports.specs.declared.status.Ending.TheVariants as ending
use Rattle.shell_reports.specs.declared.status.Status.{Status}
use Rattle.shell_reports.specs.declared.status.Status.TheVariants as status
use Rattle.shell_reports.specs.declared.status.RunStop.{RunStop}
use Rattle.shell_reports.specs.declared.status.RunStop.TheVariants as stop
use Rattle.shell_reports.specs.Outcome.{Outcome, lf, status_of}
use Rattle.shell_reports.specs.Saved.{Saves}
use Rattle.shell_changes.specs.Saved.{Stores}
use Rattle.shell_export.specs.Printing.{IsPrinted}
use Rattle.shell_run.specs.Run.{Ends, FailedToRead, AppendsPart, Holds, SaysReadFault}
use Rattle.shell_run.specs.Printed.{EndsPrinting, HoldsPrinted}

-- what is due may be said of more, and so may what copies contents
failed_more : (copying copying' : Bool) (due wider : Outcome → Type 0) (made made' : Option Images)
    → (IsTrue copying → IsTrue copying') → ((outcome : Outcome) → due outcome → wider outcome) → FailedToRead copying due made made' → FailedToRead copying' wider made made'
failed_more copying copying' due wider made made' may more (inl same) = inl same
failed_more copying copying' due wider made made' may more (inr h) = inr (may h.0, (h.1.0, more h.1.0 h.1.1, h.1.2, h.1.3))

says_more : (streaming streaming' : Bool) (due wider : Outcome → Type 0) (text text' : Option (List ℕ))
    → (IsTrue streaming → IsTrue streaming') → ((outcome : Outcome) → due outcome → wider outcome) → SaysReadFault streaming due text text' → SaysReadFault streaming' wider text text'
says_more streaming streaming' due wider text text' may more (inl says) = inl says
says_more streaming streaming' due wider text text' may more (inr h) = inr (may h.0, (h.1.0, more h.1.0 h.1.1, h.1.2, h.1.3))

pub ends_more : (faulted faulted' : Type 0) (copying copying' streaming streaming' : Bool) (due wider : Outcome → Type 0) (made made' : Option Images) (text text' : Option (List ℕ)) (s : Status)
    → (faulted → faulted') → (IsTrue copying → IsTrue copying') → (IsTrue streaming → IsTrue streaming') → ((outcome : Outcome) → due outcome → wider outcome)
    → Ends faulted copying streaming due made made' text text' s → Ends faulted' copying' streaming' wider made made' text text' s
ends_more faulted faulted' copying copying' streaming streaming' due wider made made' text text' status.ReadFault rose may goes more h =
    (rose h.0, failed_more copying copying' due wider made made' may more h.1, says_more streaming streaming' due wider text text' goes more h.2)
ends_more faulted faulted' copying copying' streaming streaming' due wider made made' text text' status.OutOfMemory rose may goes more h = h
ends_more faulted faulted' copying copying' streaming streaming' due wider made made' text text' status.WriteFault rose may goes more (inl h) = inl (h.0, more h.0 h.1, h.2, h.3, h.4)
ends_more faulted faulted' copying copying' streaming streaming' due wider made made' text text' status.WriteFault rose may goes more (inr (inl h)) = inr (inl (h.0, more h.0 h.1, h.2, h.3))
ends_more faulted faulted' copying copying' streaming streaming' due wider made made' text text' status.WriteFault rose may goes more (inr (inr h)) =
    inr (inr (rose h.0, failed_more copying copying' due wider made made' may more h.1, h.2))
ends_more faulted faulted' copying copying' streaming streaming' due wider made made' text text' other rose may goes more h = (h.0, more h.0 h.1, h.2, h.3, h.4)

pub keeps_here : (text : Option (List ℕ)) → Keeps text text
keeps_here None = tt
keeps_here (Some xs) = refl

pub ends_memory : (faulted : Type 0) (copying streaming : Bool) (due : Outcome → Type 0) (made : Option Images) (text text' : Option (List ℕ)) (s : Status)
    → s ≡ status.OutOfMemory → text' ≡ text → Ends faulted copying streaming due made made text text' s
ends_memory faulted copying streaming due made text text' s is same = rw (is, same) (refl, keeps_here text)

-- reading failed and nothing was written
pub ends_read : (faulted : Type 0) (copying streaming : Bool) (due : Outcome → Type 0) (made : Option Images) (text text' : Option (List ℕ)) (s : Status) → faulted
    → ((s ≡ status.WriteFault) × AppendsPart text text' (codes "read fault" ++ lf)) ⊎ ((s ≡ status.ReadFault) × Appends text text' (codes "read fault" ++ lf))
    → Ends faulted copying streaming due made made text text' s
ends_read faulted copying streaming due made text text' s rose (inl w) = rw w.0 (inr (inr (rose, inl refl, w.1)))
ends_read faulted copying streaming due made text text' s rose (inr r) = rw r.0 (rose, inl refl, inl r.1)

-- a run that has no answer
pub ends_stopped : (faulted : Type 0) (copying streaming : Bool) (due : Outcome → Type 0) (made : Option Images) (text text' : Option (List ℕ)) (s : Status) (why : RunStop)
    → (why ≡ stop.ReadFault → faulted) → (why ≡ stop.OutOfMemory → (s ≡ status.OutOfMemory) × (text' ≡ text))
    → (why ≡ stop.ReadFault → ((s ≡ status.WriteFault) × AppendsPart text text' (codes "read fault" ++ lf)) ⊎ ((s ≡ status.ReadFault) × Appends text text' (codes "read fault" ++ lf)))
    → Ends faulted copying streaming due made made text text' s
ends_stopped faulted copying streaming due made text text' s stop.OutOfMemory rose memory read = ends_memory faulted copying streaming due made text text' s (memory refl).0 (memory refl).1
ends_stopped faulted copying streaming due made text text' s stop.ReadFault rose memory read = ends_read faulted copying streaming due made text text' s (rose refl) (read refl)

-- reading failed while contents were copied
pub ends_unread : (faulted : Type 0) (copying streaming : Bool) (due : Outcome → Type 0) (made made' : Option Images) (text text' : Option (List ℕ)) (s : Status) (outcome : Outcome)
    → faulted → IsTrue copying → due outcome → IsSome outcome.saved → Becomes made made' IsUnfinished
    → ((s ≡ status.WriteFault) × AppendsPart text text' (codes "read fault" ++ lf)) ⊎ ((s ≡ status.ReadFault) × Appends text text' (codes "read fault" ++ lf))
    → Ends faulted copying streaming due made made' text text' s
ends_unread faulted copying streaming due made made' text text' s outcome rose does is some unfinished (inl w) = rw w.0 (inr (inr (rose, inr (does, (outcome, is, some, unfinished)), w.1)))
ends_unread faulted copying streaming due made made' text text' s outcome rose does is some unfinished (inr r) = rw r.0 (rose, inr (does, (outcome, is, some, unfinished)), inl r.1)

-- ---- a text that is printed

-- a status is that of an ending, or another
same_or_other : (s : Status) (e : Ending) → (s ≡ status_of e) ⊎ (s ≢ status_of e)
same_or_other status.Ok ending.Done = inl refl
same_or_other status.Ok ending.Usage = inr (λ is. (let h = is in cc))
same_or_other status.Ok ending.Image = inr (λ is. (let h = is in cc))
same_or_other status.Ok ending.Refused = inr (λ is. (let h = is in cc))
same_or_other status.Ok ending.PowerCut = inr (λ is. (let h = is in cc))
same_or_other status.Usage ending.Done = inr (λ is. (let h = is in cc))
same_or_other status.Usage ending.Usage = inl refl
same_or_other status.Usage ending.Image = inr (λ is. (let h = is in cc))
same_or_other status.Usage ending.Refused = inr (λ is. (let h = is in cc))
same_or_other status.Usage ending.PowerCut = inr (λ is. (let h = is in cc))
same_or_other status.Image ending.Done = inr (λ is. (let h = is in cc))
same_or_other status.Image ending.Usage = inr (λ is. (let h = is in cc))
same_or_other status.Image ending.Image = inl refl
same_or_other status.Image ending.Refused = inr (λ is. (let h = is in cc))
same_or_other status.Image ending.PowerCut = inr (λ is. (let h = is in cc))
same_or_other status.Refused ending.Done = inr (λ is. (let h = is in cc))
same_or_other status.Refused ending.Usage = inr (λ is. (let h = is in cc))
same_or_other status.Refused ending.Image = inr (λ is. (let h = is in cc))
same_or_other status.Refused ending.Refused = inl refl
same_or_other status.Refused ending.PowerCut = inr (λ is. (let h = is in cc))
same_or_other status.ReadFault ending.Done = inr (λ is. (let h = is in cc))
same_or_other status.ReadFault ending.Usage = inr (λ is. (let h = is in cc))
same_or_other status.ReadFault ending.Image = inr (λ is. (let h = is in cc))
same_or_other status.ReadFault ending.Refused = inr (λ is. (let h = is in cc))
same_or_other status.ReadFault ending.PowerCut = inr (λ is. (let h = is in cc))
same_or_other status.WriteFault ending.Done = inr (λ is. (let h = is in cc))
same_or_other status.WriteFault ending.Usage = inr (λ is. (let h = is in cc))
same_or_other status.WriteFault ending.Image = inr (λ is. (let h = is in cc))
same_or_other status.WriteFault ending.Refused = inr (λ is. (let h = is in cc))
same_or_other status.WriteFault ending.PowerCut = inr (λ is. (let h = is in cc))
same_or_other status.OutOfMemory ending.Done = inr (λ is. (let h = is in cc))
same_or_other status.OutOfMemory ending.Usage = inr (λ is. (let h = is in cc))
same_or_other status.OutOfMemory ending.Image = inr (λ is. (let h = is in cc))
same_or_other status.OutOfMemory ending.Refused = inr (λ is. (let h = is in cc))
same_or_other status.OutOfMemory ending.PowerCut = inr (λ is. (let h = is in cc))
same_or_other status.PowerCut ending.Done = inr (λ is. (let h = is in cc))
same_or_other status.PowerCut ending.Usage = inr (λ is. (let h = is in cc))
same_or_other status.PowerCut ending.Image = inr (λ is. (let h = is in cc))
same_or_other status.PowerCut ending.Refused = inr (λ is. (let h = is in cc))
same_or_other status.PowerCut ending.PowerCut = inl refl

module _ (faulted : Type 0) (copying streaming : Bool) (due : Outcome → Type 0) (made made' : Option Images) (text text' : Option (List ℕ)) (outcome : Outcome) (is : due outcome) (saves : Saves outcome.saved made made') where
  -- all of it
  ends_whole : (e : Ending) → outcome.ending ≡ e → Appends text text' outcome.text → Ends faulted copying streaming due made made' text text' (status_of e)
  ends_whole ending.Done so says = (outcome, is, ap status_of so, saves, says)
  ends_whole ending.Usage so says = (outcome, is, ap status_of so, saves, says)
  ends_whole ending.Image so says = (outcome, is, ap status_of so, saves, says)
  ends_whole ending.Refused so says = (outcome, is, ap status_of so, saves, says)
  ends_whole ending.PowerCut so says = (outcome, is, ap status_of so, saves, says)

  ends_by : (s : Status) → (s ≡ status_of outcome.ending) ⊎ (s ≢ status_of outcome.ending) → (s ≡ status_of outcome.ending → Appends text text' outcome.text)
      → (s ≢ status_of outcome.ending → (s ≡ status.WriteFault) × AppendsPart text text' outcome.text) → Ends faulted copying streaming due made made' text text' s
  ends_by s (inl same) all part = subst (λ (t : Status). Ends faulted copying streaming due made made' text text' t) (sym same) (ends_whole outcome.ending refl (all same))
  ends_by s (inr other) all part = subst (λ (t : Status). Ends faulted copying streaming due made made' text text' t) (sym (part other).0) (inr (inl (outcome, is, saves, (part other).1)))

  -- all of it, or a front
  pub ends_printed : (s : Status) → (s ≡ status_of outcome.ending → Appends text text' outcome.text)
      → (s ≢ status_of outcome.ending → (s ≡ status.WriteFault) × AppendsPart text text' outcome.text) → Ends faulted copying streaming due made made' text text' s
  ends_printed s all part = ends_by s (same_or_other s outcome.ending) all part

-- ---- sinks that stored everything

pub holds_more : (due wider : Outcome → Type 0) (kept kept' : Option Images) (text text' : Option (List ℕ)) (s : Status) → ((outcome : Outcome) → due outcome → wider outcome)
    → Holds due kept kept' text text' s → Holds wider kept kept' text text' s
holds_more due wider kept kept' text text' status.ReadFault more h = tt
holds_more due wider kept kept' text text' status.WriteFault more h = tt
holds_more due wider kept kept' text text' status.OutOfMemory more h = tt
holds_more due wider kept kept' text text' other more h = (h.0, more h.0 h.1, h.2, h.3, h.4)

-- a run that has no answer
pub holds_stopped : (due : Outcome → Type 0) (kept kept' : Option Images) (text text' : Option (List ℕ)) (s : Status) (why : RunStop) → (why ≡ stop.OutOfMemory → s ≡ status.OutOfMemory)
    → (why ≡ stop.ReadFault → (s ≡ status.WriteFault) ⊎ (s ≡ status.ReadFault)) → Holds due kept kept' text text' s
holds_stopped due kept kept' text text' s stop.OutOfMemory memory read = rw (memory refl) tt
holds_stopped due kept kept' text text' s stop.ReadFault memory read = elim (read refl) [ inl is ↦ rw is tt | inr is ↦ rw is tt ]

module _ (due : Outcome → Type 0) (kept kept' : Option Images) (text text' : Option (List ℕ)) (outcome : Outcome) (is : due outcome) (stores : Stores outcome.saved kept kept') where
  holds_whole : (e : Ending) → outcome.ending ≡ e → StillTells text text' (λ was now. now ≡ was ++ outcome.text) → Holds due kept kept' text text' (status_of e)
  holds_whole ending.Done so says = (outcome, is, ap status_of so, stores, says)
  holds_whole ending.Usage so says = (outcome, is, ap status_of so, stores, says)
  holds_whole ending.Image so says = (outcome, is, ap status_of so, stores, says)
  holds_whole ending.Refused so says = (outcome, is, ap status_of so, stores, says)
  holds_whole ending.PowerCut so says = (outcome, is, ap status_of so, stores, says)

  holds_by : (s : Status) → (s ≡ status_of outcome.ending) ⊎ (s ≢ status_of outcome.ending) → (s ≡ status_of outcome.ending → StillTells text text' (λ was now. now ≡ was ++ outcome.text))
      → (s ≢ status_of outcome.ending → s ≡ status.WriteFault) → Holds due kept kept' text text' s
  holds_by s (inl same) all part = subst (λ (t : Status). Holds due kept kept' text text' t) (sym same) (holds_whole outcome.ending refl (all same))
  holds_by s (inr other) all part = subst (λ (t : Status). Holds due kept kept' text text' t) (sym (part other)) tt

  -- all of it is printed, or writing failed
  pub holds_printed : (s : Status) → (s ≡ status_of outcome.ending → StillTells text text' (λ was now. now ≡ was ++ outcome.text)) → (s ≢ status_of outcome.ending → s ≡ status.WriteFault)
      → Holds due kept kept' text text' s
  holds_printed s all part = holds_by s (same_or_other s outcome.ending) all part

-- ---- what is only printed

pub printing_more : (faulted faulted' : Type 0) (copying streaming streaming' : Bool) (due wider : Outcome → Type 0) (made : Option Images) (text text' : Option (List ℕ)) (s : Status)
    → (faulted → faulted') → (IsTrue streaming → IsTrue streaming') → ((outcome : Outcome) → due outcome → wider outcome)
    → EndsPrinting faulted streaming due text text' s → Ends faulted' copying streaming' wider made made text text' s
printing_more faulted faulted' copying streaming streaming' due wider made text text' s rose goes more ends =
    ends_more faulted faulted' false copying streaming streaming' due wider made made text text' s rose (λ does. absurd (let e = does in cc)) goes more (ends made)

pub stored_more : (due wider : Outcome → Type 0) (kept : Option Images) (text text' : Option (List ℕ)) (s : Status) → ((outcome : Outcome) → due outcome → wider outcome)
    → HoldsPrinted due text text' s → Holds wider kept kept text text' s
stored_more due wider kept text text' s more holds = holds_more due wider kept kept text text' s more (holds kept)

saves_none : (saved : Option Images) (made : Option Images) → saved ≡ None → Saves saved made made
saves_none saved made nothing = rw nothing refl

stores_none : (saved : Option Images) (made : Option Images) → saved ≡ None → Stores saved made made
stores_none saved made nothing = rw nothing refl

-- a text that was printed piece by piece, or of which a front was
pub streamed_ends : (faulted : Type 0) (due : Outcome → Type 0) (text text' kept kept' : Option (List ℕ)) (s : Status) → (s ≡ status.ReadFault → faulted) → IsPrinted due text text' kept kept' s
    → EndsPrinting faulted true due text text' s
streamed_ends faulted due text text' kept kept' s rose (outcome, is, nothing, inl whole) = λ made.
    subst (λ (t : Status). Ends faulted false true due made made text text' t) (sym whole.0)
    (ends_whole faulted false true due made made text text' outcome is (saves_none outcome.saved made nothing) outcome.ending refl whole.1.0)
streamed_ends faulted due text text' kept kept' s rose (outcome, is, nothing, inr (inl part)) = λ made.
    subst (λ (t : Status). Ends faulted false true due made made text text' t) (sym part.0) (inr (inl (outcome, is, saves_none outcome.saved made nothing, part.1)))
streamed_ends faulted due text text' kept kept' s rose (outcome, is, nothing, inr (inr front)) = λ made.
    subst (λ (t : Status). Ends faulted false true due made made text text' t) (sym front.0) (rose front.0, inl refl, inr (refl, (outcome, is, front.1, front.2)))

pub streamed_holds : (due : Outcome → Type 0) (text text' kept kept' : Option (List ℕ)) (s : Status) → IsPrinted due text text' kept kept' s → HoldsPrinted due kept kept' s
streamed_holds due text text' kept kept' s (outcome, is, nothing, inl whole) = λ made.
    subst (λ (t : Status). Holds due made made kept kept' t) (sym whole.0) (holds_whole due made made kept kept' outcome is (stores_none outcome.saved made nothing) outcome.ending refl whole.1.1)
streamed_holds due text text' kept kept' s (outcome, is, nothing, inr (inl part)) = λ made. subst (λ (t : Status). Holds due made made kept kept' t) (sym part.0) tt
streamed_holds due text text' kept kept' s (outcome, is, nothing, inr (inr front)) = λ made. subst (λ (t : Status). Holds due made made kept kept' t) (sym front.0) tt

pub ruleset endings = (ends_more, ends_memory, ends_read)
