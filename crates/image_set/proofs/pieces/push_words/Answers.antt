use Rattle.std.proofs.Common.{◌≡◌, ℕ, List, ◌+◌, ◌++◌, ◌∷◌, [], length, drop, refl, arith, ap, ◌∙◌, sym, subst}
use Rattle.std.proofs.lemmas.List.{length-take-le, take-append-drop}
use Rattle.nvd_words.specs.Bytes.{AreBytes}
use Rattle.nvd_words.proofs.ByteLists.{take_bytes, drop_bytes}
use Rattle.cut_words.specs.WordBytes.{bytes_of}
use Rattle.image_set.proofs.Eights.{word_more}
use Rattle.image_set.proofs.pieces.push_words.Goals as goal

pub loop-bytes-init : goal.loop-bytes-init
loop-bytes-init c = record {
  bytes = record { each = λ k. (c.type_inv.piece k).fits };
  whole = c.requires;
  count = refl;
  so_far = refl;
}

pub loop-bytes-preserved : goal.loop-bytes-preserved
loop-bytes-preserved c =
    let all : List ℕ = c.loop-bytes.rest.now in
    let words : List ℕ = c.loop-bytes.words.items in
    let cases = c.in-Some.ensures.cases in
    let left : length c.in-Some.more.now + 8 ≡ length all = cases.2 in
    let was = c.loop-bytes.invariant in
    record {
      bytes = subst AreBytes (sym cases.1) (drop_bytes 8 all was.bytes);
      whole = omega (arith, left, was.whole);
      count = omega (arith, left, was.count, c.in_ok-push.ensures.len);
      so_far = ap (λ (now : List ℕ). bytes_of now ++ c.in-Some.more.now) (c.in_ok-push.ensures.items ∙ ap (λ (w : ℕ). words ++ w ∷ []) c.from_le_bytes.ensures)
          ∙ word_more words c.args.words.now.items c.args.piece.now c.in-Some.bytes.now c.in-Some.more.now all (subst AreBytes (sym cases.0) (take_bytes 8 all was.bytes))
          (ap length cases.0 ∙ length-take-le 8 all (omega (arith, left)))
          (sym (take-append-drop 8 all) ∙ ap (λ (front : List ℕ). front ++ drop 8 all) (sym cases.0) ∙ ap (λ (back : List ℕ). c.in-Some.bytes.now ++ back) (sym cases.1)) was.so_far;
    }
