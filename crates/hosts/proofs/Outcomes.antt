-- A work that reads its files, and then writes what comes of them.
use Rattle.std.proofs.Common.{◌≡◌, ℕ, Bool, List, [], ◌∷◌, ◌++◌, Ok, Err, Result, refl, sym, ap, subst, ◌∙◌, append_assoc, append-nil}
use Rattle.std.proofs.lemmas.List.Concat.{flat_map-append}
use Rattle.hosts.specs.Events.{Event, Call, files_read, file_read_by, unread}
use Rattle.hosts.specs.Works.{IsFront}
use Rattle.hosts.specs.Memory.{Remembers}
use Rattle.hosts.specs.Pages.{Shows, NeverFails}
use Rattle.hosts.specs.inner.Filling.{Filled}
use Rattle.hosts.specs.Writing.{Written, written, written_by, output_in, store_in, WritesSo}
use Rattle.hosts.specs.Outcomes.{IsDone, Reads, ReadsAndWrites}
use Rattle.hosts.specs.declared.memories.Memory.{Memory}
use Rattle.hosts.proofs.Continuing.{worked_after}
use Rattle.hosts.proofs.Fronts.{whole, front_of}
use Rattle.hosts.proofs.Histories.{fits_before}
use Rattle.hosts.proofs.Remembering.{fits, printed_shown, stored_shown, same_printed, same_stored}
use Rattle.hosts.proofs.Writing.{printed-written, stored-written}

first_none : {X : Type 0} (xs ys : List X) → xs ++ ys ≡ [] → xs ≡ []
first_none [] ys h = refl
first_none (x ∷ xs) ys h = cc

module _ {F P : Type 0} (same : F → F → Bool) (bytes_of : P → F → List ℕ) (needed : P → List F) where
  module _ {S E : Type 0} (does : S → Event F → S → Type 0) (fails : S → Call F → E → S → Type 0) {X Y : Type 0} (Says : P → Y → Type 0) (all : P → List Written) (Q : P → X → Type 0) where
    -- what was read says what is to be written and answered
    pub read_then_written : (s t u : S) (y : Y) (ws : List Written) (A : X → Type 0) (r : Result X E)
        → Reads same bytes_of needed does fails Says s (Ok y) t → ((p : P) → Says p y → (all p ≡ ws) × ((x : X) → A x → Q p x))
        → WritesSo does fails ws A t r u → ReadsAndWrites same bytes_of needed does fails all Q s r u
    read_then_written s t u y ws A r read comes =
        let reads = read.events in
        worked_after does fails _ _ _ _ s t u reads r read.went
        (λ es x w p h.
        let k = read.good.says p (fits_before same (bytes_of p) reads es w.no_read h) in
        let c = comes p k.0 in
        record {
          answer = c.1 x w.answer;
          written = flat_map-append written_by reads es ∙ (λ i. read.good.reads_only i ++ w.whole i) ∙ sym c.0;
          files = flat_map-append file_read_by reads es ∙ (λ i. k.1 i ++ w.no_read i) ∙ append-nil (needed p);
        })
        (λ es call w p h.
        let k = read.good.says p (fits_before same (bytes_of p) reads es (first_none (files_read es) (unread call) w.no_read) h) in
        record {
          written = subst (λ l. IsFront l (all p)) (sym (flat_map-append written_by reads es ∙ ap (λ l. l ++ written es) read.good.reads_only))
              (subst (IsFront (written es)) (sym (comes p k.0).0) w.part);
          files = subst (λ l. IsFront l (needed p))
              (sym (ap (λ l. l ++ unread call) (flat_map-append file_read_by reads es) ∙ append_assoc (files_read reads) (files_read es) (unread call) ∙ (λ i. k.1 i ++ w.no_read i) ∙ append-nil (needed p)))
              (whole (needed p));
        })

    -- a file could not be read
    pub not_read : (s t : S) (e : E) (r : Result X E) → Reads same bytes_of needed does fails Says s (Err e) t → r ≡ Err e → ReadsAndWrites same bytes_of needed does fails all Q s r t
    not_read s t e r read is =
        subst (λ r. ReadsAndWrites same bytes_of needed does fails all Q s r t) (sym is)
        (record {
          events = read.events;
          call = read.call;
          before = read.before;
          went = read.went;
          failed = read.failed;
          part = λ p h. record { written = front_of (written read.events) (all p) (all p) (ap (λ l. l ++ all p) (sym read.part.reads_only)); files = read.part.files p h };
        })

-- ---- over files in memory
module _ {T F P X : Type 0} (same : F → F → Bool) (bytes_of : P → F → List ℕ) (needed : P → List F) (left : T → P) (all : P → List Written) (Q : P → X → Type 0) (m n : Memory T) (x : X)
    (run : ReadsAndWrites same bytes_of needed (Remembers same (λ t. bytes_of (left t))) NeverFails all Q m (Ok x) n) where
  abbrev left_of : T → F → List ℕ
  left_of t = bytes_of (left t)

  done : IsDone same bytes_of needed all Q (left m.files) run.events x
  done = run.good (left m.files) (fits same left_of m n run.events run.went)

  pub answered : Q (left m.files) x
  answered = done.answer

  pub output_shown : Filled m.printed.now n.printed.now (output_in (all (left m.files)))
  output_shown lent empty =
      subst (λ t. Shows lent t n.printed.now) (printed-written run.events ∙ ap output_in done.written) (printed_shown same left_of m n run.events run.went lent [] empty)

  pub store_shown : Filled m.stored.now n.stored.now (store_in (all (left m.files)))
  store_shown lent empty =
      subst (λ t. Shows lent t n.stored.now) (stored-written run.events ∙ ap store_in done.written) (stored_shown same left_of m n run.events run.went lent [] empty)

  pub same_output : n.printed.ghost_name ≡ m.printed.ghost_name
  same_output = same_printed same left_of m _ n x run

  pub same_store : n.stored.ghost_name ≡ m.stored.ghost_name
  same_store = same_stored same left_of m _ n x run
