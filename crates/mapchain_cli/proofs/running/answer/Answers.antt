use Rattle.std.proofs.Common.{arith, refl}
use Rattle.std.proofs.lemmas.Result.{err_from_is_err_and}
use Rattle.command_words.specs.declared.request.Request.TheVariants.{Build}
use Rattle.mapchain_cli.specs.Asking.{texts_of}
use Rattle.mapchain_cli.specs.Files.{used}
use Rattle.mapchain_cli.proofs.Refusals.{layers_refuse, words_refuse}
use Rattle.mapchain_cli.proofs.running.answer.Goals as goal

pub returns-in_err-report-in-Build-clause-refused : goal.returns-in_err-report-in-Build-clause-refused
returns-in_err-report-in-Build-clause-refused g c =
    let p = err_from_is_err_and c.from_residual-in_err-report-in-Build.result c.from_residual-in_err-report-in-Build.ensures.1 in
    let request = Build c.in-Build.layers c.in-Build.exact c.in-Build.grid c.in-Build.area c.in-Build.keep c.in-Build.ring_area c.in-Build.no_crossings c.in-Build.keep_shapes in
    let options = c.in_ok-options-in-Build.options in
    let refused = rw c.as_slice.ensures.value at c.in_err-report-in-Build.ensures.refused in
    rw (c.in-Build.is, p.1, p.2) (layers_refuse (used (g.F.Files.state c.args.files.now) (g.F.Files.state c.build_layers.new.files)) request options (texts_of c.in-Build.layers.items) c.args.out.now c.build_layers.new.out
    c.in_err-report-in-Build.field-0.0 (λ fault h. (options, c.in_ok-options-in-Build.ensures.asked, h)) (λ prefix. prefix) refused)

pub returns-in_err-report-in-Simplify-clause-refused : goal.returns-in_err-report-in-Simplify-clause-refused
returns-in_err-report-in-Simplify-clause-refused g c =
    let p = err_from_is_err_and c.from_residual-in_err-report-in-Simplify.result c.from_residual-in_err-report-in-Simplify.ensures.1 in
    let asked = c.in_ok-level-in-Simplify.ensures in
    rw (c.in-Simplify.is, p.1, p.2) (c.in_ok-level-in-Simplify.level, c.in_ok-level-in-Simplify.ring_limit, asked.level, asked.ring_area, c.in_err-report-in-Simplify.ensures.refused)

pub returns-in_ok-report-in-Simplify-clause-reduced : goal.returns-in_ok-report-in-Simplify-clause-reduced
returns-in_ok-report-in-Simplify-clause-reduced g c =
    let reduced = c.in_ok-report-in-Simplify.ensures.reduced in
    rw c.in-Simplify.is (c.in_ok-level-in-Simplify.level, reduced.0, reduced.1, c.in_ok-level-in-Simplify.ensures.level, reduced.2, reduced.3, reduced.4)

pub returns-in_ok-report-in-Build-clause-answered : goal.returns-in_ok-report-in-Build-clause-answered
returns-in_ok-report-in-Build-clause-answered g c =
    let built = rw c.as_slice.ensures.value at c.in_ok-report-in-Build.ensures.built in
    rw c.in-Build.is (c.in_ok-options-in-Build.options, c.in_ok-options-in-Build.ensures.asked, built)

pub returns-in_ok-report-in-Build-clause-reduced : goal.returns-in_ok-report-in-Build-clause-reduced
returns-in_ok-report-in-Build-clause-reduced g c =
    let reduced = rw c.as_slice.ensures.value at c.in_ok-report-in-Build.ensures.reduced in
    rw c.in-Build.is (c.in_ok-options-in-Build.options, reduced.0, reduced.1, c.in_ok-options-in-Build.ensures.asked, reduced.2, reduced.3, reduced.4)

pub returns-in_err-options-in-Build-clause-refused : goal.returns-in_err-options-in-Build-clause-refused
returns-in_err-options-in-Build-clause-refused g c =
    let p = err_from_is_err_and c.from_residual.result c.from_residual.ensures.1 in
    let request = Build c.in-Build.layers c.in-Build.exact c.in-Build.grid c.in-Build.area c.in-Build.keep c.in-Build.ring_area c.in-Build.no_crossings c.in-Build.keep_shapes in
    rw (c.in-Build.is, p.1, p.2) (words_refuse (g.F.Files.state c.args.files.now) request c.args.out.now c.in_err-options-in-Build.field-0.0 (λ f h. h) (λ f h. h) (0, omega arith, refl) c.in_err-options-in-Build.ensures.refused)
