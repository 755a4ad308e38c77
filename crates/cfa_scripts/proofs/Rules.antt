-- Lemmas that goals want by name.
use Rattle.std.proofs.lemmas.List.Elements.{filter_map-append}

pub ruleset appended = (filter_map-append)
