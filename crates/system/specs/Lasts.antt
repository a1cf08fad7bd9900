-- The last that is done on a disk after a work.
use Rattle.std.specs.Prelude.{List, [], ◌∷◌}
use Rattle.system.specs.Deeds.{Deed, Flushed, Kept}
use Rattle.system.specs.declared.lasts.Last.{Last}
use Rattle.system.specs.declared.lasts.Last.TheVariants.{Flush, FlushThenKeep, KeepThenFlush}

abbrev pub deeds_of : {F : Type 0} → Last → List (Deed F)
deeds_of Flush = Flushed ∷ []
deeds_of (FlushThenKeep path) = Flushed ∷ Kept path.now ∷ []
deeds_of (KeepThenFlush path) = Kept path.now ∷ Flushed ∷ []
