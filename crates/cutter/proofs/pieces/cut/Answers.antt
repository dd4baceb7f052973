use Rattle.std.proofs.Common.{◌≡◌, ◌+◌, ◌<◌, ◌≤◌, [], ◌∷◌, ◌++◌, take, length, get_or, arith, ap, sym, ◌∙◌, subst}
use Rattle.cutter.proofs.Names.{turns, get_in, is_member, AllClean, is_cut, In, piece_segments, times, split_lines_and_rings, AllSplit, all_pieces, split_by, split_of, started, lines_and_rings}
use Rattle.cutter.specs.Alone.{AreAlone}
use Rattle.cutter.proofs.CleanStarts.{clean_starts}
use Rattle.cutter.proofs.Joins.{all_split, same_times}
use Rattle.cutter.proofs.Known.{ready, split_known, structured_splits}
use Rattle.cutter.proofs.SharedCuts.{AreSplit, all_lines, line_more, next_line}
use Rattle.cutter.proofs.Unlike.{AreMarked, flag_next, flags_alone, second_marks}
use Rattle.cutter.proofs.pieces.cut.Goals as goal

pub split_line-requires : goal.split_line-requires
split_line-requires c =
    let ls = c.args.lines.lines_and_rings in
    let s = c.index_mut.result.now in
    let clean : AllClean ls = subst (λ l. AllClean l) c.into_parts-lines_and_rings.ensures.lines_and_rings c.into_parts-lines_and_rings.ensures.clean in
    let h : c.loop-i.i < length ls = omega (arith, c.loop-i-test.true, c.len-i-end.ensures, ap length c.into_parts-lines_and_rings.ensures.lines_and_rings) in
    let m : In s ls = get_in ls c.loop-i.i s h (next_line ls c.loop-i.lines_and_rings.items c.loop-i.i s h c.loop-i.invariant.turned c.index_mut.ensures.value) in
    ready ls c.args.vertices.now c.requires s m clean

pub loop-i-preserved : goal.loop-i-preserved
loop-i-preserved c =
    let ls = c.args.lines.lines_and_rings in
    let i = c.loop-i.i in
    let s = c.index_mut.result.now in
    let t = c.split_line.new.stroke in
    let cut = is_member c.args.vertices.now.cuts in
    let new = c.split_line.new.cuts.items in
    let clean : AllClean ls = subst (λ l. AllClean l) c.into_parts-lines_and_rings.ensures.lines_and_rings c.into_parts-lines_and_rings.ensures.clean in
    let h : i < length ls = omega (arith, c.loop-i-test.true, c.len-i-end.ensures, ap length c.into_parts-lines_and_rings.ensures.lines_and_rings) in
    let e : s ≡ get_or ls i s = next_line ls c.loop-i.lines_and_rings.items i s h c.loop-i.invariant.turned c.index_mut.ensures.value in
    let m : In s ls = get_in ls i s h e in
    let by : split_by cut s ≡ split_of ls s = split_known ls c.args.vertices.now c.requires s m in
    let n : c.len-in-loop-i.result ≡ length new = omega (arith, c.len-in-loop-i.ensures) in
    record {
      turned = turns (started (is_cut ls)) ls i c.loop-i.lines_and_rings.items s t h c.loop-i.invariant.turned
          (c.in_ok-once.ensures.stroke ∙ ap (λ x. x.stroke) by ∙ ap (started (is_cut ls)) c.index_mut.ensures.value);
      split = subst (AreSplit ls (i + 1) new) (sym (c.in_ok-push.ensures.items ∙ ap (λ k. c.loop-i.ends.items ++ (k ∷ [])) n))
          (line_more ls i s t cut c.loop-i.cuts.items new c.loop-i.ends.items h e c.in_ok-once.ensures.stroke by (ready ls c.args.vertices.now c.requires s m clean).ends
          c.in_ok-once.ensures.cuts c.loop-i.invariant.split);
      flags = subst (AreMarked ls (take (i + 1) ls)) (sym c.in_ok-push-2.ensures.items) (flag_next ls i c.loop-i.alone.items s c.in_ok-once.once h e c.loop-i.invariant.flags (λ set.
          let once = c.in_ok-once.ensures.once set in
          second_marks ls c.args.vertices.now c.requires clean s t m c.in_ok-once.ensures.stroke once.0 once.1));
    }

pub invariant_of-result : goal.invariant_of-result
invariant_of-result c =
    let ls = c.args.lines.lines_and_rings in
    let clean : AllClean ls = subst (λ l. AllClean l) c.into_parts-lines_and_rings.ensures.lines_and_rings c.into_parts-lines_and_rings.ensures.clean in
    let h : length ls ≤ c.loop-i.i = omega (arith, c.loop-i-test.false, c.len-i-end.ensures, ap length c.into_parts-lines_and_rings.ensures.lines_and_rings) in
    let r = all_lines ls c.loop-i.lines_and_rings.items c.loop-i.i c.loop-i.cuts.items c.loop-i.ends.items h c.loop-i.invariant.turned c.loop-i.invariant.split in
    let flags = flags_alone ls c.loop-i.lines_and_rings.items c.loop-i.i c.loop-i.alone.items h clean c.loop-i.invariant.turned c.loop-i.invariant.flags in (
      r.0,
      structured_splits ls (split_lines_and_rings c.loop-i.cuts.items 0 c.loop-i.lines_and_rings.items c.loop-i.ends.items) clean r.1,
      subst (λ l. AllSplit l) (sym r.1) (all_split ls clean),
      subst (λ l. AllClean (lines_and_rings l)) (sym r.1) (clean_starts ls clean),
      flags.0,
      subst (AreAlone c.loop-i.alone.items) (sym r.1) flags.1,
    )

pub returns-clause-segments : goal.returns-clause-segments
returns-clause-segments c = λ a b.
    let ls = c.args.lines.lines_and_rings in
    let clean : AllClean ls = subst (λ l. AllClean l) c.into_parts-lines_and_rings.ensures.lines_and_rings c.into_parts-lines_and_rings.ensures.clean in
    let h : length ls ≤ c.loop-i.i = omega (arith, c.loop-i-test.false, c.len-i-end.ensures, ap length c.into_parts-lines_and_rings.ensures.lines_and_rings) in
    let r = all_lines ls c.loop-i.lines_and_rings.items c.loop-i.i c.loop-i.cuts.items c.loop-i.ends.items h c.loop-i.invariant.turned c.loop-i.invariant.split in
    ap (λ l. times a b (piece_segments (all_pieces l))) r.1 ∙ same_times ls clean a b
