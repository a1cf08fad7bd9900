-- A list that has grown.
use Rattle.std.specs.Prelude.{List, ◌++◌}
use Rattle.inspection.specs.Lists.{Contents, grown_to}

-- with new entries behind its own
abbrev pub extended : {E : Type 0} → List E → Contents E → Contents E
extended new h = grown_to (h.entries ++ new) h
