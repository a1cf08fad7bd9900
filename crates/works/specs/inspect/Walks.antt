-- Pairs of faces, offered one after another to an inspection of a sheet.
use Rattle.std.specs.Prelude.{ℕ, Bool, ◌||◌, List, [], ◌∷◌, ◌++◌, length, drop, nat_lt, flat_map, fold, Some, None, Option}
use Rattle.hosts.specs.Writing.{Written, printing, storing}
use Rattle.sheet.specs.Checks.{first_fit, check}
use Rattle.sheet.specs.declared.drafts.Draft.{Draft}
use Rattle.sheet.specs.declared.notices.Layer.TheVariants.{Offer}
use Rattle.sheet.specs.declared.notices.Notice.{Notice}
use Rattle.motion.specs.declared.shapes.Shape.{Shape}
use Rattle.inspection.specs.declared.offerings.Offering.{Offering}
use Rattle.inspection.specs.Offers.{pair_checks, entries_by, tally_by}
use Rattle.inspection.specs.Runs.{Accepted}
use Rattle.inspection.specs.Sheets.{Sheet}
use Rattle.inspection.specs.States.{Core, Entries, core_at_start, with_counts}
use Rattle.inspection.specs.Tests.{vf_naming, ee_naming}
use Rattle.inspection.specs.declared.names.VfName.{VfName}
use Rattle.inspection.specs.declared.names.EeName.{EeName}
use Rattle.plan.specs.Notices.{notice_line}
use Rattle.plan.specs.PairBytes.{pair_bytes}

-- at which depth the tests are struck
abbrev pub depth : ℕ
depth = 2

-- how many entries a list may have
abbrev pub room : ℕ
room = 512

-- ---- a walk over pairs
-- what there is of the inspection: its counts, and the names on its two lists
pub record Found : Type 0 where
  pub core : Core
  pub entries : Entries

pub record Refusal : Type 0 where
  pub pair : Offering
  pub why : Notice

-- why is printed, and the pair stored
abbrev pub refusal_written : Refusal → List Written
refusal_written r = printing (notice_line r.why) ++ storing (pair_bytes r.pair)

-- the pairs that were refused and those that were accepted, each in their order
pub record Walk : Type 0 where
  pub refused : List Refusal
  pub accepted : List Accepted
  pub found : Found

abbrev pub just_opened : Draft → Walk
just_opened d =
    record {
      refused = [];
      accepted = [];
      found = record { core = core_at_start d depth; entries = record { vf = []; ee = [] } };
    }

-- ---- by a filter's set, over a sheet
module _ (set : Shape → Bool) (s : Sheet) where
  -- the names on the two lists after a pair
  abbrev pub vf_after : Offering → Found → List VfName
  vf_after o f = entries_by vf_naming set f.core.depth s o f.entries.vf

  abbrev pub ee_after : Offering → Found → List EeName
  ee_after o f = entries_by ee_naming set f.core.depth s o f.entries.ee

  -- a list would have more entries than it may
  abbrev pub is_full : Offering → Found → Bool
  is_full o f = nat_lt room (length (vf_after o f)) || nat_lt room (length (ee_after o f))

  -- why a pair is refused, if it is
  abbrev pub refusal : Offering → Found → Option Notice
  refusal o f =
      first_fit (pair_checks f.core.draft s o f.core.accepted ++ (check (is_full o f) 21 Offer 0 0 ∷ []))

  -- what an accepted pair leaves
  abbrev pub found_after : Offering → Found → Found
  found_after o f =
      let vf_tally = tally_by vf_naming set f.core.depth s o f.entries.vf in
      let ee_tally = tally_by ee_naming set f.core.depth s o f.entries.ee in
      record {
        core = with_counts vf_tally ee_tally f.core;
        entries = record { vf = vf_after o f; ee = ee_after o f };
      }

  -- a pair goes to the refused or to the accepted
  abbrev pub sorted_in : Walk → Offering → Option Notice → Walk
  sorted_in w o (Some n) =
      record {
        refused = w.refused ++ (record { pair = o; why = n } ∷ []);
        accepted = w.accepted;
        found = w.found;
      }
  sorted_in w o None =
      record {
        refused = w.refused;
        accepted = w.accepted ++ (record { what = o; depth = w.found.core.depth } ∷ []);
        found = found_after o w.found;
      }

  abbrev pub walk_on : Walk → Offering → Walk
  walk_on w o = sorted_in w o (refusal o w.found)

  abbrev pub walked : Walk → List Offering → Walk
  walked w os = fold walk_on w os

  -- ---- when a walk goes on over these pairs
  -- those that are refused then, and what is written of them
  abbrev pub newly_refused : Walk → List Offering → List Refusal
  newly_refused w os = drop (length w.refused) (walked w os).refused

  abbrev pub refusals_written : Walk → List Offering → List Written
  refusals_written w os = flat_map refusal_written (newly_refused w os)

-- the lines that tell why pairs are refused, and those pairs again in bytes
abbrev pub refusal_lines : Walk → List ℕ
refusal_lines w = flat_map (λ r. notice_line r.why) w.refused

abbrev pub refused_pairs : Walk → List ℕ
refused_pairs w = flat_map (λ r. pair_bytes r.pair) w.refused
