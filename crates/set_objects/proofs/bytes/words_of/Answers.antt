use Rattle.std.proofs.Common.{◌≡◌, ℕ, List, ◌+◌, ◌++◌, ◌∷◌, [], length, drop, arith, ap, ◌∙◌, sym, subst}
use Rattle.std.proofs.lemmas.List.{length-take-le, take-append-drop}
use Rattle.nvd_words.specs.Bytes.{AreBytes}
use Rattle.nvd_words.proofs.ByteLists.{take_bytes, drop_bytes}
use Rattle.cut_words.specs.WordBytes.{bytes_of}
use Rattle.image_set.proofs.Eights.{word_more}
use Rattle.set_objects.proofs.bytes.words_of.Goals as goal

pub loop-word-preserved : goal.loop-word-preserved
loop-word-preserved c =
    let all : List ℕ = c.loop-word.rest.now in
    let words : List ℕ = c.loop-word.words.items in
    let cases = c.in-Some.ensures.cases in
    let left : length c.in-Some.more.now + 8 ≡ length all = cases.2 in
    let was = c.loop-word.invariant in
    record {
      bytes = subst AreBytes (sym cases.1) (drop_bytes 8 all was.bytes);
      whole = omega (arith, left, was.whole);
      count = omega (arith, left, was.count, c.in_ok-push.ensures.len);
      so_far = ap (λ (now : List ℕ). bytes_of now ++ c.in-Some.more.now) (c.in_ok-push.ensures.items ∙ ap (λ (w : ℕ). words ++ w ∷ []) c.from_le_bytes.ensures)
          ∙ word_more words [] c.args.bytes.now c.in-Some.word.now c.in-Some.more.now all (subst AreBytes (sym cases.0) (take_bytes 8 all was.bytes))
          (ap length cases.0 ∙ length-take-le 8 all (omega (arith, left)))
          (sym (take-append-drop 8 all) ∙ ap (λ (front : List ℕ). front ++ drop 8 all) (sym cases.0) ∙ ap (λ (back : List ℕ). c.in-Some.word.now ++ back) (sym cases.1)) was.so_far;
    }
