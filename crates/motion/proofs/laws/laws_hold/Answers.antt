use Rattle.motion.proofs.BoxLaws.{box-lawful, box-in-slab}
use Rattle.motion.proofs.SlabLaws.{slab-lawful}
use Rattle.motion.proofs.PlaneLaws.{plane-lawful, never-coplanar}
use Rattle.motion.proofs.Directions.{lists-all-directions}
use Rattle.motion.proofs.Windows.{finds-window}
use Rattle.motion.proofs.laws.laws_hold.Goals as goal

pub returns : goal.returns
returns c =
    record {
      boxes = box-lawful;
      slabs = slab-lawful;
      planes = plane-lawful;
      never_coplanar = never-coplanar;
      directions = lists-all-directions;
      box_in_slab = box-in-slab;
      windows = finds-window;
    }
