-- What comes of a plan's sheet and its step: a fault is told; else the near pairs are stored and told.
use Rattle.std.specs.Prelude.{ℕ, List, [], ◌++◌, length, flat_map, codes, decimal, Some, Option}
use Rattle.hosts.specs.Writing.{Outcome, only_line, or_tells}
use Rattle.sheet.specs.Checks.{first_fit}
use Rattle.sheet.specs.declared.notices.Notice.{Notice}
use Rattle.inspection.specs.Offers.{offer_limit}
use Rattle.near_faces.specs.declared.pairs.Pair.{Pair}
use Rattle.near_faces.specs.Near.{near_pairs, offering_of}
use Rattle.near_faces.specs.Searches.{search_checks}
use Rattle.plan.specs.Notices.{notice_line}
use Rattle.plan.specs.PairBytes.{pair_bytes}
use Rattle.plan.specs.Plans.{Plan, plan, draft, moving_points, faces, sheet, fault}
use Rattle.plan.specs.declared.endings.Ending.{Ending}
use Rattle.plan.specs.declared.endings.Ending.TheVariants.{Complete, Faulty}

-- ---- the search
-- places for the tree of the largest sheet, and for as many pairs as an inspection accepts
abbrev pub node_room : ℕ
node_room = 8191

abbrev pub pair_room : ℕ
pair_room = offer_limit

abbrev pub search_fault : Plan → Option Notice
search_fault p = first_fit (search_checks (draft p) (moving_points p) (faces p) node_room pair_room)

-- ---- pairs in bytes, and in a line
abbrev pub pairs_bytes : List Pair → List ℕ
pairs_bytes ps = flat_map (λ p. pair_bytes (offering_of p)) ps

-- how many faces a sheet has, and how many near pairs
abbrev pub pairs_line : ℕ → ℕ → List ℕ
pairs_line faces pairs =
    codes "near " ++ (decimal faces ++ (codes " faces, " ++ (decimal pairs ++ codes " pairs\n")))

-- ---- what comes of it: a fault is told
abbrev pub told_fault : Notice → Outcome Ending
told_fault n = only_line (notice_line n) (Faulty n)

-- or of so many faces these pairs are found
abbrev pub paired : ℕ → List Pair → Outcome Ending
paired faces ps =
    record {
      stored = Some (pairs_bytes ps);
      line = pairs_line faces (length ps);
      answer = Complete;
    }

-- of a plan's sheet and step: the first fault, or the near pairs
abbrev pub pairing : List ℕ → List ℕ → Outcome Ending
pairing text record_bytes =
    let p = plan text record_bytes [] in
    or_tells (fault p) told_fault
    (or_tells (search_fault p) told_fault
    (paired (draft p).faces (near_pairs (sheet p))))
