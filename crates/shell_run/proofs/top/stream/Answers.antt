use Rattle.std.proofs.Common.{◌≡◌, true, false, Option, Result, Err, sym, ap, ◌∙◌, subst, arith}
use Rattle.std.specs.Prelude.{IfOk}
use Rattle.std.specs.Option.{ForSome}
use Rattle.nvd_media.specs.Causes.{Rose}
use Rattle.nvd_media.specs.Images.{Images}
use Rattle.image_set.specs.declared.fault.LoadFault.{LoadFault}
use Rattle.image_set.specs.declared.outline.Outline.{Outline}
use Rattle.image_set.specs.Outline.{HasContents}
use Rattle.shell_run.specs.Printed.{EndsPrinting, HoldsPrinted, IsUnloaded, Streams, StreamsFrom}
use Rattle.shell_run.specs.Run.{OnImages}
use Rattle.shell_run.proofs.Comes.{outlined_on, unoutlined_on}
use Rattle.shell_run.proofs.Ending.{printing_more, stored_more}
use Rattle.shell_run.proofs.top.stream.Goals as goal

pub stream_or_stop-requires-clause-there : goal.stream_or_stop-requires-clause-there
stream_or_stop-requires-clause-there g c =
    let held = g.S.ImageSource.held c.args.images.now in
    subst (λ (h : Option Images). ForSome h (HasContents c.in-Ok.outline.sizes)) (sym c.load_outline.ensures.same)
    (subst (λ (l : Result Outline LoadFault). ForSome held (λ set. IfOk l (λ o. HasContents o.sizes set))) c.in-Ok.is c.load_outline.ensures.sizes)

pub returns-in-Ok-clause-ends : goal.returns-in-Ok-clause-ends
returns-in-Ok-clause-ends g c = λ made.
    let held = g.S.ImageSource.held c.args.images.now in
    let before = g.S.ImageSource.faults c.args.images.now in
    let between = g.S.ImageSource.faults c.load_outline.new.images in
    let after = g.S.ImageSource.faults c.stream_or_stop.new.images in
    let later = c.load_outline.ensures.later in
    printing_more (Rose between after) (Rose before after) false true true (StreamsFrom c.args.what held c.in-Ok.outline) (OnImages (Streams c.args.what) held) made
    (g.O.TextSink.written c.args.text.now) (g.O.TextSink.written c.stream_or_stop.new.text) c.stream_or_stop.result (λ rose. omega (arith, later, rose)) (λ it. it)
    (λ outcome due. outlined_on (Streams c.args.what) held c.load_outline.result c.in-Ok.outline outcome c.in-Ok.is c.load_outline.ensures.told due)
    (subst (λ (h : Option Images). EndsPrinting (Rose between after) true (StreamsFrom c.args.what h c.in-Ok.outline) (g.O.TextSink.written c.args.text.now) (g.O.TextSink.written c.stream_or_stop.new.text) c.stream_or_stop.result)
    c.load_outline.ensures.same c.stream_or_stop.ensures.ends)

pub returns-in-Ok-clause-stored : goal.returns-in-Ok-clause-stored
returns-in-Ok-clause-stored g c = λ kept.
    let held = g.S.ImageSource.held c.args.images.now in
    stored_more (StreamsFrom c.args.what held c.in-Ok.outline) (OnImages (Streams c.args.what) held) kept
    (g.O.TextSink.kept c.args.text.now) (g.O.TextSink.kept c.stream_or_stop.new.text) c.stream_or_stop.result
    (λ outcome due. outlined_on (Streams c.args.what) held c.load_outline.result c.in-Ok.outline outcome c.in-Ok.is c.load_outline.ensures.told due)
    (subst (λ (h : Option Images). HoldsPrinted (StreamsFrom c.args.what h c.in-Ok.outline) (g.O.TextSink.kept c.args.text.now) (g.O.TextSink.kept c.stream_or_stop.new.text) c.stream_or_stop.result)
    c.load_outline.ensures.same c.stream_or_stop.ensures.stored)

pub returns-in-Ok-clause-read : goal.returns-in-Ok-clause-read
returns-in-Ok-clause-read g c = λ is.
    let later = c.load_outline.ensures.later in
    let rose = c.stream_or_stop.ensures.read is in
    omega (arith, later, rose)

pub returns-in-Err-clause-ends : goal.returns-in-Err-clause-ends
returns-in-Err-clause-ends g c = λ made.
    let held = g.S.ImageSource.held c.args.images.now in
    printing_more (c.in-Err.fault ≡ LoadFault.ReadFault) (Rose (g.S.ImageSource.faults c.args.images.now) (g.S.ImageSource.faults c.load_outline.new.images)) false false true (IsUnloaded c.in-Err.fault) (OnImages (Streams c.args.what) held) made
    (g.O.TextSink.written c.args.text.now) (g.O.TextSink.written c.tell_unloaded.new.text) c.tell_unloaded.result (λ is. c.load_outline.ensures.failed (c.in-Err.is ∙ ap (λ (f : LoadFault). Err f) is))
    (λ never. absurd (let e = never in cc))
    (λ outcome is. unoutlined_on (Streams c.args.what) held c.load_outline.result c.in-Err.fault outcome c.in-Err.is c.load_outline.ensures.told is) c.tell_unloaded.ensures.ends

pub returns-in-Err-clause-stored : goal.returns-in-Err-clause-stored
returns-in-Err-clause-stored g c = λ kept.
    let held = g.S.ImageSource.held c.args.images.now in
    stored_more (IsUnloaded c.in-Err.fault) (OnImages (Streams c.args.what) held) kept (g.O.TextSink.kept c.args.text.now) (g.O.TextSink.kept c.tell_unloaded.new.text) c.tell_unloaded.result
    (λ outcome is. unoutlined_on (Streams c.args.what) held c.load_outline.result c.in-Err.fault outcome c.in-Err.is c.load_outline.ensures.told is) c.tell_unloaded.ensures.stored
