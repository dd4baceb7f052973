-- What is asked for, and its outcome.
use Rattle.std.specs.Prelude.{◌≡◌, ℕ, Bool, false, List, length, map, Option, Some, None}
use Rattle.std.specs.Borrow.{Bor}
use Rattle.std.specs.Option.{option_map}
use Rattle.byte_ends.specs.Ends.{Drained, Fed}
use Rattle.effective_area.specs.Calls.{Call}
use Rattle.effective_area.specs.ShareTexts.{share_of}
use Rattle.effective_area.specs.Thresholds.{threshold_of}
use Rattle.command_words.specs.declared.request.Request.{Request}
use Rattle.command_words.specs.declared.request.Request.TheVariants.{Build, Simplify, Geo, Stat}
use Rattle.inputs.specs.declared.fault.BuildFault.{BuildFault}
use Rattle.inputs.specs.declared.file_fault.FileFault.{FileFault}
use Rattle.build_meaning.specs.declared.guards.Guards.{Guards}
use Rattle.layer_topology.specs.declared.level.Level.{Level}
use Rattle.layer_topology.specs.declared.level.Level.TheVariants as level
use Rattle.reports.specs.declared.report.Report.{Report}
use Rattle.inputs.specs.Sources.{Sources}
use Rattle.mapchain_engine.specs.Building.{CallsForLayers}
use Rattle.mapchain_engine.specs.declared.options.Options.{Options}
use Rattle.mapchain_engine.specs.Geo.{IsGeoFaultWithin}
use Rattle.mapchain_engine.specs.Simplified.{CallsForTopology, IsSimplifyFault}
use Rattle.mapchain_cli.specs.declared.ending.Ending.{Ending}
use Rattle.mapchain_cli.specs.declared.ending.Ending.TheVariants.{BadArea, BadRingArea, BadShare, Refused, FileRefused, Memory}
use Rattle.mapchain_cli.specs.Endings.{BuildsOf, DecodesOf, IsSummaryFault, RefusesFile, RefusesLayers, SimplifiesOf, Summarises}
use Rattle.mapchain_cli.specs.Files.{AreOpened, FileUse, IsOpened, Layers, Opened, OpensPrefix}

-- the names of layers and the paths of their files
abbrev pub texts_of : List (Bor (List ℕ) × Bor (List ℕ)) → Layers
texts_of layers = map (λ l. (l.0.now, l.1.now)) layers

-- the level of a threshold, or of the text of a share in its place; none where the text is no share
abbrev pub level_of : ℕ → Option (Bor (List ℕ)) → Option Level
level_of t None = Some (level.Fixed t)
level_of t (Some keep) = option_map (λ s. level.Share s.0 s.1) (share_of keep.now)

-- the guards under which no crossing may be made (true) or may, and shapes stay (true) or needn't
abbrev pub guards_of : Bool → Bool → Guards
guards_of no_crossings keep_shapes = record { no_crossings = no_crossings; keep_shapes = keep_shapes }

-- this is the level of the texts of an area and of a share in its place
abbrev pub IsLevelOf : List ℕ → Option (Bor (List ℕ)) → Level → Type 0
IsLevelOf area keep level = (t : ℕ) × (threshold_of area ≡ Some t) × (level_of t keep ≡ Some level)

-- whether coordinates may be rounded, the grid, the texts of the area or the share whose level the options have, and of the least ring
-- area, and the guards
abbrev pub IsAskedFor : Bool → Option ℕ → List ℕ → Option (Bor (List ℕ)) → List ℕ → Guards → Options → Type 0
IsAskedFor exact grid area keep ring_area guards options =
    (options.exact ≡ exact) × (options.grid ≡ grid) × IsLevelOf area keep options.level
    × (threshold_of ring_area ≡ Some options.ring_limit) × (options.guards ≡ guards)

-- what was asked for was written of these files: a build with its options, or what is left of a topology, which have a report; the
-- features of an object; a summary
abbrev pub IsAnswered : FileUse → Request → Drained → Drained → Option Report → Type 0
IsAnswered files (Build layers exact grid area keep ring_area no_crossings keep_shapes) old new (Some report) =
    (options : Options) × IsAskedFor exact grid area.now keep ring_area.now (guards_of no_crossings keep_shapes) options × BuildsOf files options (texts_of layers.items) old new report
IsAnswered files (Simplify area keep ring_area no_crossings keep_shapes path) old new (Some report) =
    (level : Level) × (limit : ℕ) × IsLevelOf area.now keep level × (threshold_of ring_area.now ≡ Some limit)
    × SimplifiesOf files (guards_of no_crossings keep_shapes) level limit path.now old new report
IsAnswered files (Geo name most path) old new None = DecodesOf files name.now most path.now old new
IsAnswered files (Stat crossings path) old new None = Summarises files crossings path.now old new
IsAnswered files request old new report = ⊥

-- the first of these areas has no threshold, or else the second hasn't, or memory was refused
abbrev pub AreRefused : List ℕ → List ℕ → Ending → Type 0
AreRefused area ring_area BadArea = threshold_of area ≡ None
AreRefused area ring_area BadRingArea = ((t : ℕ) × (threshold_of area ≡ Some t)) × (threshold_of ring_area ≡ None)
AreRefused area ring_area Memory = Unit {0}
AreRefused area ring_area e = ⊥

-- these areas are taken, and the text of the share is none
abbrev pub IsShareRefused : List ℕ → List ℕ → Option (Bor (List ℕ)) → Type 0
IsShareRefused area ring_area keep =
    ((t : ℕ) × (threshold_of area ≡ Some t) × (level_of t keep ≡ None)) × ((limit : ℕ) × (threshold_of ring_area ≡ Some limit))

-- they are refused in this way: an area, or else the share
abbrev pub LevelIsRefused : List ℕ → Option (Bor (List ℕ)) → List ℕ → Ending → Type 0
LevelIsRefused area keep ring_area BadShare = IsShareRefused area ring_area keep
LevelIsRefused area keep ring_area e = AreRefused area ring_area e

-- the areas or the share that are asked for are refused in this way
abbrev pub HasBadArea : Request → Ending → Type 0
HasBadArea (Build layers exact grid area keep ring_area no_crossings keep_shapes) e = LevelIsRefused area.now keep ring_area.now e
HasBadArea (Simplify area keep ring_area no_crossings keep_shapes path) e = LevelIsRefused area.now keep ring_area.now e
HasBadArea request e = ⊥

-- why the build that is asked for isn't done
abbrev pub RefusesBuild : FileUse → Request → Drained → Drained → BuildFault → Type 0
RefusesBuild files (Build layers exact grid area keep ring_area no_crossings keep_shapes) old new e =
    (options : Options) × IsAskedFor exact grid area.now keep ring_area.now (guards_of no_crossings keep_shapes) options × RefusesLayers files options (texts_of layers.items) old new e
RefusesBuild files request old new e = ⊥

-- why the topology of a file isn't simplified, decoded or summarised as is asked for
abbrev pub RefusesTopology : FileUse → Request → Drained → Drained → FileFault → Type 0
RefusesTopology files (Simplify area keep ring_area no_crossings keep_shapes path) old new e =
    (level : Level) × (limit : ℕ) × IsLevelOf area.now keep level × (threshold_of ring_area.now ≡ Some limit)
    × RefusesFile files path.now old new (λ s u. IsSimplifyFault (guards_of no_crossings keep_shapes) level limit s u old new) e
RefusesTopology files (Geo name most path) old new e = RefusesFile files path.now old new (λ s u. IsGeoFaultWithin most name.now s u old new) e
RefusesTopology files (Stat crossings path) old new e = RefusesFile files path.now old new (IsSummaryFault crossings old new) e
RefusesTopology files request old new e = ⊥

-- a prefix of the files that the request names was opened
abbrev pub OpensSome : FileUse → Request → Type 0
OpensSome files (Build layers exact grid area keep ring_area no_crossings keep_shapes) = OpensPrefix (length (texts_of layers.items)) files
OpensSome files request = Opened 0 files

-- a reducer that was asked for so much before was asked for this since: to reduce each arc of the layers, or of the topology that is simplified, as
-- the sources that are noted were read, at the threshold of the area, or for nothing where a share takes its place, no crossing may be made or
-- shapes stay,
-- and for nothing else
abbrev pub CallsFor : FileUse → Request → List Call → List Call → Type 0
CallsFor files (Build layers exact grid area keep ring_area no_crossings keep_shapes) before after =
    (options : Options) × (olds : Sources) × (news : Sources) × IsAskedFor exact grid area.now keep ring_area.now (guards_of no_crossings keep_shapes) options
    × AreOpened files.before.contents (texts_of layers.items) olds × (files.after.noted.sources ≡ Some news) × CallsForLayers options olds news before after
CallsFor files (Simplify area keep ring_area no_crossings keep_shapes path) before after =
    (level : Level) × (old : Fed) × (new : Fed) × IsLevelOf area.now keep level × IsOpened files.before.contents path.now old
    × (files.after.noted.source ≡ Some new) × CallsForTopology (guards_of no_crossings keep_shapes) level old new before after
CallsFor files request before after = after ≡ before

-- why what was asked for isn't done
abbrev pub IsRefused : FileUse → Request → Drained → Drained → Ending → Type 0
IsRefused files request old new BadArea = (new ≡ old) × Opened 0 files × HasBadArea request BadArea
IsRefused files request old new BadRingArea = (new ≡ old) × Opened 0 files × HasBadArea request BadRingArea
IsRefused files request old new BadShare = (new ≡ old) × Opened 0 files × HasBadArea request BadShare
IsRefused files request old new (Refused e) = RefusesBuild files request old new e
IsRefused files request old new (FileRefused e) = RefusesTopology files request old new e
IsRefused files request old new Memory = (new ≡ old) × OpensSome files request
