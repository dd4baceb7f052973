-- The unit of coordinates, and every number that follows from it.
use Rattle.std.specs.Prelude.{ℕ, ◌*◌, ◌-◌, ◌^◌}

-- the decimals that are kept: a unit is 10^-9 of the input's unit
abbrev pub unit_places : ℕ
unit_places = 9

-- the units in one of the input's
abbrev pub units_in_one : ℕ
units_in_one = 10 ^ unit_places

-- ---- how far coordinates may be from zero, in units

-- that of a position that is read: 10^8 of the input's unit
abbrev pub input_limit : ℕ
input_limit = 10 ^ 8 * units_in_one

-- that of any position
abbrev pub position_limit : ℕ
position_limit = 3 * input_limit

-- the number of a cell of a topology
abbrev pub cell_limit : ℕ
cell_limit = 10 * input_limit

-- ---- areas

-- the decimals of an area in square units of the input's
abbrev pub area_places : ℕ
area_places = 2 * unit_places

-- The greatest area, in square units: 10^18 of the input's. Twice the area of any triangle between positions is below it.
abbrev pub area_limit : ℕ
area_limit = 10 ^ 18 * 10 ^ area_places

-- a threshold is twice an area
abbrev pub threshold_limit : ℕ
threshold_limit = 2 * area_limit

-- ---- the numbers of a transform (TopoJSON 1.0, section 2.1.2)

-- the decimals at which they are taken
abbrev pub transform_places : ℕ
transform_places = 20

-- how many of their units a unit of coordinates is
abbrev pub fine_units : ℕ
fine_units = 10 ^ (transform_places - unit_places)

-- how far from zero they may be: as far as a position
abbrev pub transform_limit : ℕ
transform_limit = position_limit * fine_units
