-- Places are ordered by file, then by line, then by column.
use Rattle.std.specs.Prelude.{Bool, ◌&&◌, ◌||◌, not, nat_lt, ◌==◌}
use Rattle.cfa_base.specs.declared.places.Place.{Place}

abbrev pub is_before : Place → Place → Bool
is_before place other =
    nat_lt place.file other.file
    || (place.file == other.file
    && (nat_lt place.line other.line || (place.line == other.line && nat_lt place.col other.col)))

abbrev pub not_after : Place → Place → Bool
not_after place other = not (is_before other place)
