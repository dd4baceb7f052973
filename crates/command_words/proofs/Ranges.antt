-- The grid of what words ask for.
use Rattle.std.proofs.Common.{◌≡◌, ◌^◌, ℕ, List, [], ◌∷◌, Bool, true, false, Option, Some, None, arith, refl, subst}
use Rattle.std.specs.Prelude.{IfSome, codes, option_and_then, option_map, if◌then◌else◌}
use Rattle.std.specs.Str.{bytes_eq}
use Rattle.std.specs.Str.Parse.{digits_value, without_leading_plus}
use Rattle.clap.specs.Kinds.{Kinds}
use Rattle.clap.specs.ValueTests.{is_unsigned_in}
use Rattle.clap.specs.Simple.{subcommand_of}
use Rattle.clap.specs.Walk.{Row, Text, one_of}
use Rattle.clap.specs.declared.builder.value_parser.ValueParser.TheVariants.{Unsigned}
use Rattle.clap.proofs.ValueTestLemmas.{accepts-Accepts}
use Rattle.command_words.specs.Asked.{Asked, Ordered, area_in, asked, asked_in, build, build_in, build_on, cells_of, geo, geo_in, grid_at, grid_in, has_both, is_set, keep_in, kinds_of, layers_in, most_in, order_of, ordered, ordered_in, output_in, ring_area_in, simplify, simplify_in, stat, stat_in, text_of, where_none}
use Rattle.command_words.specs.CommandLine.{program_app}
use Rattle.command_words.specs.Requests.{IsCells, IsInRange}
use Rattle.command_words.specs.declared.request.Order.{Order}
use Rattle.command_words.specs.declared.request.Request.{Request}
use Rattle.command_words.specs.declared.request.Request.TheVariants.{Build}

-- its grid, if any, may have its number of cells
abbrev Fits : Asked → Type 0
Fits (build layers exact grid area keep ring_area no_crossings keep_shapes) = IfSome grid IsCells
Fits (simplify area keep ring_area no_crossings keep_shapes path) = Unit {0}
Fits (geo name most path) = Unit {0}
Fits (stat crossings path) = Unit {0}

cells_in_range : (text : Text) → IfSome (cells_of text) IsCells
cells_in_range text = go (is_unsigned_in 2 (10 ^ 9) text) refl
  where
    go : (b : Bool) → is_unsigned_in 2 (10 ^ 9) text ≡ b → IfSome (if b then Some (digits_value 10 (without_leading_plus text)) else None) IsCells
    go true e = let a = accepts-Accepts false (Unsigned 2 (10 ^ 9)) text e in (omega (arith, a.2), omega (arith, a.3))
    go false e = tt

some_cells : (cells : Option ℕ) → IfSome cells IsCells → IfSome (option_map (λ n. Some n) cells) (λ (grid : Option ℕ). IfSome grid IsCells)
some_cells None h = tt
some_cells (Some n) h = h

grid_in_range : (given : Option Text) → IfSome (grid_at given) (λ grid. IfSome grid IsCells)
grid_in_range None = tt
grid_in_range (Some text) = some_cells (cells_of text) (cells_in_range text)

build_in_range : (rows : List Row) (grid : Option (Option ℕ)) (layers : Option (List (Text × Text))) → IfSome grid (λ g. IfSome g IsCells)
    → IfSome (option_and_then (λ g. option_map (build_on rows g) layers) grid) Fits
build_in_range rows None layers h = tt
build_in_range rows (Some g) None h = tt
build_in_range rows (Some g) (Some ls) h = h

either : (b : Bool) (x y : Option Asked) → IfSome x Fits → IfSome y Fits → IfSome (if b then x else y) Fits
either true x y h k = h
either false x y h k = k

built_in_range : (rows : List Row) → IfSome (build_in rows) Fits
built_in_range rows =
    either (has_both rows) None (option_and_then (λ g. option_map (build_on rows g) (layers_in rows)) (grid_in rows)) tt
    (build_in_range rows (grid_in rows) (layers_in rows) (grid_in_range (one_of (codes "grid") rows)))

simplify_in_range : (rows : List Row) → IfSome (simplify_in rows) Fits
simplify_in_range rows = either (has_both rows) None (Some (simplify (area_in rows) (keep_in rows) (ring_area_in rows) (is_set (codes "no-crossings") rows) (is_set (codes "keep-shapes") rows) (text_of (codes "file") rows))) tt tt

geo_in_range : (rows : List Row) → IfSome (geo_in rows) Fits
geo_in_range rows = go (most_in rows)
  where
    go : (o : Option (Option ℕ)) → IfSome (option_map (λ most. geo (text_of (codes "object") rows) most (text_of (codes "file") rows)) o) Fits
    go None = tt
    go (Some most) = tt

command_in_range : (found : Text × List Row) → IfSome (asked_in found) Fits
command_in_range found =
    let rows = found.1 in
    let built = built_in_range rows in
    let decoded = geo_in rows in
    let counted = stat_in rows in
    let is_simplify = bytes_eq found.0 (codes "simplify") in
    let is_geo = bytes_eq found.0 (codes "geo") in
    let is_stat = bytes_eq found.0 (codes "stat") in
    let last : Option Asked = if is_stat then Some counted else None in
    let third : Option Asked = if is_geo then decoded else last in
    let second : Option Asked = if is_simplify then simplify_in rows else third in
    either (bytes_eq found.0 (codes "build")) (build_in rows) second built
    (either is_simplify (simplify_in rows) third (simplify_in_range rows) (either is_geo decoded last (geo_in_range rows) (either is_stat (Some counted) None tt tt)))

with_output : (output : Option Text) (o : Option Asked) → IfSome o Fits → IfSome (option_map (λ a. (a, output)) o) (λ (x : Ordered). Fits x.0)
with_output output None h = tt
with_output output (Some a) h = h

found_in_range : (found : Option (Text × List Row)) → IfSome (option_and_then ordered_in found) (λ (o : Ordered). Fits o.0)
found_in_range None = tt
found_in_range (Some found) = with_output (output_in found.1) (asked_in found) (command_in_range found)

unless_refused : (kinds : Kinds) (o : Option Ordered) → IfSome o (λ (x : Ordered). Fits x.0) → IfSome (where_none kinds o) (λ (x : Ordered). Fits x.0)
unless_refused [] o h = h
unless_refused (k ∷ ks) o h = tt

of_request : (request : Request) → Fits (asked request) → IsInRange request
of_request (Build layers exact grid area keep ring_area no_crossings keep_shapes) h = h
of_request request h = tt

-- the grid of a request that words ask for may have its number of cells
pub asked_in_range : (words : List Text) (order : Order) → order_of words ≡ Some (ordered order) → IsInRange order.request
asked_in_range words order is =
    of_request order.request (subst (λ (o : Option Ordered). IfSome o (λ (x : Ordered). Fits x.0)) is
    (unless_refused (kinds_of words) _ (found_in_range (subcommand_of program_app words))))
