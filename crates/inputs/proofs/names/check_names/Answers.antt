use Rattle.std.proofs.Common.{sym, subst, ◌∙◌, ap, ◌==◌, length}
use Rattle.std.proofs.lemmas.List.{take_all}
use Rattle.std.specs.List.{AllByRecursion}
use Rattle.std.specs.Prelude.{IsUtf8}
use Rattle.owned_values.proofs.Prefixes.{all_more}
use Rattle.owned_values.proofs.Elements.{all_map}
use Rattle.inputs.specs.Names.{Knows}
use Rattle.inputs.proofs.NamesFound as names
use Rattle.inputs.proofs.names.check_names.Goals as goal

pub returns-then-is_empty-clause-fault : goal.returns-then-is_empty-clause-fault
returns-then-is_empty-clause-fault g c =
    names.empty_name (λ s. s.0) c.args.sources.now c.layers.layer _ c.layers.invariant.0 _ c.layers-test.true c.index-sources-layer.is
    (sym (ap (λ z. length z == 0) c.as_str-name.ensures.text) ∙ sym c.is_empty.ensures ∙ c.if-is_empty.true)

pub returns-then-again-clause-fault : goal.returns-then-again-clause-fault
returns-then-again-clause-fault g c =
    names.doubled_name (λ s. s.0) c.args.sources.now c.layers.layer _ c.layers.invariant.0 _ c.layers-test.true c.index-sources-layer.is
    (sym (ap (λ z. length z == 0) c.as_str-name.ensures.text) ∙ sym c.is_empty.ensures ∙ c.if-is_empty.false)
    (rw c.as_str-name.ensures.text at (sym c.meet-again.ensures.again ∙ c.if-again.true))

pub layers-preserved : goal.layers-preserved
layers-preserved g c = (
  names.goes_on (λ s. s.0) c.args.sources.now c.layers.layer _ c.layers.invariant.0 _ c.layers-test.true c.index-sources-layer.is
      (sym (ap (λ z. length z == 0) c.as_str-name.ensures.text) ∙ sym c.is_empty.ensures ∙ c.if-is_empty.false)
      (rw c.as_str-name.ensures.text at (sym c.meet-again.ensures.again ∙ c.if-again.false)),
  all_more (λ s. IsUtf8 s.0) c.args.sources.now c.layers.layer _ c.layers-test.true c.index-sources-layer.is c.layers.invariant.1 c.as_str-name.ensures.utf8,
  subst (Knows c.meet-again.result.1) (sym (names.one_more (λ s. s.0) c.args.sources.now c.layers.layer _ c.layers.invariant.0 _ c.layers-test.true c.index-sources-layer.is))
      (rw c.as_str-name.ensures.text at c.meet-again.ensures.known c.if-again.false),
)

pub returns-clause-fault : goal.returns-clause-fault
returns-clause-fault g c = names.no_more (λ s. s.0) c.args.sources.now c.layers.layer _ c.layers.invariant.0 c.layers-test.false

pub returns-clause-texts : goal.returns-clause-texts
returns-clause-texts g c =
    all_map (λ n. IsUtf8 n) (λ s. s.0) c.args.sources.now
    (subst (AllByRecursion (λ s. IsUtf8 s.0)) (take_all c.layers.layer c.args.sources.now c.layers-test.false) c.layers.invariant.1)
