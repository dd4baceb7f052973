-- Words that ask for a request, whatever it is.
use Rattle.std.specs.Prelude.{IfSome, decimal, ◌≡◌, ◌<◌, ◌^◌, ◌++◌, Bool, true, false, List, [], ◌∷◌, length, map, codes, Option, Some, None, option_map}
use Rattle.clap.specs.Lexer.{has_byte, usize_max}
use Rattle.clap.specs.Walk.{Text}
use Rattle.command_words.specs.LayerWords.{equals_sign}
use Rattle.command_words.specs.Requests.{IsCells}
use Rattle.command_words.specs.Asked.{Asked, Ordered, build, geo, simplify, stat}

-- a layer as a word
abbrev pub layer_word : Text × Text → Text
layer_word layer = layer.0 ++ equals_sign ∷ layer.1

-- an option with its text in one word
abbrev pub value_word : Text → Text → Text
value_word option text = codes "--" ++ (option ++ (codes "=" ++ text))

abbrev pub flag_word : Text → Text
flag_word flag = codes "--" ++ flag

-- an option before other words, if it is given
abbrev pub and_value : Text → Option Text → List Text → List Text
and_value option (Some text) words = value_word option text ∷ words
and_value option None words = words

-- a flag before other words, if it is given
abbrev pub and_flag : Text → Bool → List Text → List Text
and_flag flag true words = flag_word flag ∷ words
and_flag flag false words = words

-- the area, or a share in its place
abbrev pub level_word : Text → Option Text → Text
level_word area None = value_word (codes "min-area") area
level_word area (Some share) = value_word (codes "keep") share

abbrev pub ring_area_word : Text → Text
ring_area_word ring_area = value_word (codes "min-ring-area") ring_area

-- the words of a request whose output goes to this file, or to standard output
abbrev pub written : Ordered → List Text
written (build layers exact grid area keep ring_area no_crossings keep_shapes, output) =
    codes "build" ∷ and_value (codes "output") output (and_value (codes "grid") (option_map decimal grid)
    (level_word area keep ∷ ring_area_word ring_area ∷ and_flag (codes "no-crossings") no_crossings (and_flag (codes "keep-shapes") keep_shapes (and_flag (codes "exact") exact (codes "--" ∷ map layer_word layers)))))
written (simplify area keep ring_area no_crossings keep_shapes path, output) =
    codes "simplify" ∷ and_value (codes "output") output
    (level_word area keep ∷ ring_area_word ring_area ∷ and_flag (codes "no-crossings") no_crossings (and_flag (codes "keep-shapes") keep_shapes (codes "--" ∷ path ∷ [])))
written (geo name most path, output) = codes "geo" ∷ and_value (codes "output") output
    (value_word (codes "object") name ∷ and_value (codes "max-positions") (option_map decimal most) (codes "--" ∷ path ∷ []))
written (stat crossings path, output) = codes "stat" ∷ and_value (codes "output") output (and_flag (codes "crossings") crossings (codes "--" ∷ path ∷ []))

-- the words of a level, with a value that may be any text as a word of its own
abbrev pub level_apart : Text → Option Text → List Text → List Text
level_apart area None words = codes "--min-area" ∷ area ∷ words
level_apart area (Some share) words = codes "--keep" ∷ share ∷ words

abbrev pub ring_area_apart : Text → List Text → List Text
ring_area_apart ring_area words = codes "--min-ring-area" ∷ ring_area ∷ words

abbrev pub written_apart : Ordered → List Text
written_apart (build layers exact grid area keep ring_area no_crossings keep_shapes, output) =
    codes "build" ∷ and_value (codes "output") output (and_value (codes "grid") (option_map decimal grid)
    (level_apart area keep (ring_area_apart ring_area (and_flag (codes "no-crossings") no_crossings (and_flag (codes "keep-shapes") keep_shapes (and_flag (codes "exact") exact (codes "--" ∷ map layer_word layers)))))))
written_apart (simplify area keep ring_area no_crossings keep_shapes path, output) =
    codes "simplify" ∷ and_value (codes "output") output
    (level_apart area keep (ring_area_apart ring_area (and_flag (codes "no-crossings") no_crossings (and_flag (codes "keep-shapes") keep_shapes (codes "--" ∷ path ∷ [])))))
written_apart (geo name most path, output) = written (geo name most path, output)
written_apart (stat crossings path, output) = written (stat crossings path, output)

-- no name has an `=`
abbrev pub HasPlainNames : List (Text × Text) → Type 0
HasPlainNames [] = Unit {0}
HasPlainNames (layer ∷ layers) = (has_byte equals_sign layer.0 ≡ false) × HasPlainNames layers

-- a request that `written` writes: a build has a layer or more, a grid from 2 to 10^9 cells if any, and beside a share
-- an area of 0; so has simplifying; a number of positions is under 2^64
abbrev pub IsWritable : Asked → Type 0
IsWritable (build layers exact grid area keep ring_area no_crossings keep_shapes) = IfSome grid IsCells × (0 < length layers) × (length layers < usize_max)
    × HasPlainNames layers × IfSome keep (λ _. area ≡ codes "0")
IsWritable (simplify area keep ring_area no_crossings keep_shapes path) = IfSome keep (λ _. area ≡ codes "0")
IsWritable (geo name most path) = IfSome most (λ n. n < 2 ^ 64)
IsWritable (stat crossings path) = Unit {0}
