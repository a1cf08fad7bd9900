-- A work's call by the one on the disk.
use Rattle.std.proofs.Common.{◌≡◌, ℕ, List, Some, Option, Ok, Err, Result, MatchResult, refl, sym, ap, ◌∙◌, subst}
use Rattle.std.specs.Option.{option_map}
use Rattle.hosts.specs.Events.{Event, Printed, Stored, Call, Printing, Storing}
use Rattle.hosts.specs.Traces.{CutOff}
use Rattle.system.specs.Deeds.{Deed, PrintedOut, StoredAt, Task, PrintingOut, StoringAt}
use Rattle.system.specs.declared.on_disk.OnDisk.{OnDisk}
use Rattle.system.specs.OnDisk.{deed_of, call_of, DoesIfAny, FailsIfAny, DoesOnDisk, FailsOnDisk}

module _ {D P F E : Type 0} (path : P → F → List ℕ) (target : P → Option (List ℕ)) (does : D → Deed F → D → Type 0) (fails : D → Task F → E → D → Type 0) where
  call_on_disk : {X : Type 0} (s t : OnDisk D P) (event : List ℕ → Event F) (call : Call F) (deed : List ℕ → Deed F) (task : Task F) (given bytes : List ℕ) (r : Result X E)
      → ((bs : List ℕ) → deed_of (path s.paths) (target s.paths) (event bs) ≡ Some (deed bs)) → call_of (path s.paths) (target s.paths) call ≡ Some task
      → t.paths ≡ s.paths → given ≡ bytes → MatchResult r (λ x. does s.disk (deed given) t.disk) (λ e. CutOff does fails s.disk deed task given e t.disk)
      → MatchResult r (λ x. DoesOnDisk path target does s (event bytes) t) (λ e. CutOff (DoesOnDisk path target does) (FailsOnDisk path target fails) s event call bytes e t)
  call_on_disk s t event call deed task given bytes (Ok x) is_deed is_task paths same did =
      record { paths = paths; done = subst (λ d. DoesIfAny path target does s.disk d t.disk) (sym (is_deed bytes)) (subst (λ bs. does s.disk (deed bs) t.disk) same did) }
  call_on_disk s t event call deed task given bytes (Err e) is_deed is_task paths same cut =
      record {
        front = cut.front;
        rest = cut.rest;
        split = sym same ∙ cut.split;
        before = record { disk = cut.before; paths = s.paths; stored = s.stored };
        did = record { paths = refl; done = subst (λ d. DoesIfAny path target does s.disk d cut.before) (sym (is_deed cut.front)) cut.did };
        failed = record { paths = paths; failed = subst (λ k. FailsIfAny path target fails cut.before k e t.disk) (sym is_task) cut.failed };
      }

  pub print_on_disk : {X : Type 0} (s t : OnDisk D P) (given bytes : List ℕ) (r : Result X E)
      → t.paths ≡ s.paths → given ≡ bytes → MatchResult r (λ x. does s.disk (PrintedOut given) t.disk) (λ e. CutOff does fails s.disk PrintedOut PrintingOut given e t.disk)
      → MatchResult r (λ x. DoesOnDisk path target does s (Printed bytes) t) (λ e. CutOff (DoesOnDisk path target does) (FailsOnDisk path target fails) s Printed Printing bytes e t)
  print_on_disk s t given bytes r = call_on_disk s t Printed Printing PrintedOut PrintingOut given bytes r (λ bs. refl) refl

  pub store_on_disk : {X : Type 0} (s t : OnDisk D P) (at given bytes : List ℕ) (r : Result X E) → t.paths ≡ s.paths → target s.paths ≡ Some at → given ≡ bytes
      → MatchResult r (λ x. does s.disk (StoredAt at given) t.disk) (λ e. CutOff does fails s.disk (StoredAt at) (StoringAt at) given e t.disk)
      → MatchResult r (λ x. DoesOnDisk path target does s (Stored bytes) t) (λ e. CutOff (DoesOnDisk path target does) (FailsOnDisk path target fails) s Stored Storing bytes e t)
  store_on_disk s t at given bytes r paths is =
      call_on_disk s t Stored Storing (StoredAt at) (StoringAt at) given bytes r (λ bs. ap (option_map (λ p. StoredAt p bs)) is) (ap (option_map StoringAt) is) paths
