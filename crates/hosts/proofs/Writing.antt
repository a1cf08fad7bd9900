-- What is written, one call after another.
use Rattle.std.proofs.Common.{◌≡◌, ℕ, List, [], ◌∷◌, ◌++◌, unwrap_or, Ok, Err, Result, IfOk, MatchResult, refl, sym, ap, ◌∙◌, subst, append-nil, append_assoc}
use Rattle.std.proofs.lemmas.List.{map-append}
use Rattle.std.proofs.lemmas.List.Concat.{flat_map-append}
use Rattle.hosts.specs.Events.{Event, Read, Printed, Stored, Call, Printing, Storing, file_read_by, unread, printed, stored}
use Rattle.hosts.specs.Traces.{nothing, next, CutOff}
use Rattle.hosts.specs.Works.{IsFront, Stopped}
use Rattle.hosts.specs.Writing.{Written, ToOutput, ToStore, printing, storing, output_by, store_by, output_in, store_in, written_by, written, IsWrittenInPart, WritesSo, Writes, Outcome, writes_of}
use Rattle.hosts.proofs.Continuing.{worked_after, cut_stops}
use Rattle.hosts.proofs.Fronts.{front_behind}
use Rattle.hosts.proofs.Histories.{reads_before}

-- ---- what is printed and stored, and what is written
pub output-printing : (text : List ℕ) → output_in (printing text) ≡ text
output-printing [] = refl
output-printing (b ∷ bs) = ap (λ l. b ∷ l) (output-printing bs)

pub store-printing : (text : List ℕ) → store_in (printing text) ≡ []
store-printing [] = refl
store-printing (b ∷ bs) = store-printing bs

pub output-storing : (bytes : List ℕ) → output_in (storing bytes) ≡ []
output-storing [] = refl
output-storing (b ∷ bs) = output-storing bs

pub store-storing : (bytes : List ℕ) → store_in (storing bytes) ≡ bytes
store-storing [] = refl
store-storing (b ∷ bs) = ap (λ l. b ∷ l) (store-storing bs)

-- of an outcome
module _ {X : Type 0} (o : Outcome X) where
  pub output-writes_of : output_in (writes_of o) ≡ o.line
  output-writes_of =
      let kept = unwrap_or o.stored [] in
      flat_map-append output_by (storing kept) (printing o.line) ∙ (λ i. output-storing kept i ++ output-printing o.line i)

  pub store-writes_of : store_in (writes_of o) ≡ unwrap_or o.stored []
  store-writes_of =
      let kept = unwrap_or o.stored [] in
      flat_map-append store_by (storing kept) (printing o.line) ∙ (λ i. store-storing kept i ++ store-printing o.line i) ∙ append-nil kept

module _ {F : Type 0} where
  pub printed-written : (es : List (Event F)) → printed es ≡ output_in (written es)
  printed-written [] = refl
  printed-written (Read f n bytes ∷ es) = printed-written es
  printed-written (Printed text ∷ es) =
      (λ i. sym (output-printing text) i ++ printed-written es i) ∙ sym (flat_map-append output_by (printing text) (written es))
  printed-written (Stored bytes ∷ es) =
      (λ i. sym (output-storing bytes) i ++ printed-written es i) ∙ sym (flat_map-append output_by (storing bytes) (written es))

  pub stored-written : (es : List (Event F)) → stored es ≡ store_in (written es)
  stored-written [] = refl
  stored-written (Read f n bytes ∷ es) = stored-written es
  stored-written (Printed text ∷ es) =
      (λ i. sym (store-printing text) i ++ stored-written es i) ∙ sym (flat_map-append store_by (printing text) (written es))
  stored-written (Stored bytes ∷ es) =
      (λ i. sym (store-storing bytes) i ++ stored-written es i) ∙ sym (flat_map-append store_by (storing bytes) (written es))

module _ {S F E : Type 0} (does : S → Event F → S → Type 0) (fails : S → Call F → E → S → Type 0) where
  -- ---- one call, or none
  module _ {X : Type 0} (Q : X → Type 0) (s t : S) (bytes : List ℕ) where
    pub printed_once : (r : Result X E) → MatchResult r (λ x. does s (Printed bytes) t × Q x) (λ e. CutOff does fails s Printed Printing bytes e t) → WritesSo does fails (printing bytes) Q s r t
    printed_once (Ok x) (d, q) =
        record { events = Printed bytes ∷ []; went = next (Printed bytes) nothing d; good = record { no_read = refl; whole = append-nil (printing bytes); answer = q } }
    printed_once (Err e) c =
        cut_stops does fails (IsWrittenInPart (printing bytes)) s t Printed Printing bytes e
        (λ front rest split.
        record { no_read = refl; part = record { rest = printing rest; split = ap printing split ∙ map-append ToOutput front rest ∙ ap (λ l. l ++ printing rest) (sym (append-nil (printing front))) } }) c

    pub stored_once : (r : Result X E) → MatchResult r (λ x. does s (Stored bytes) t × Q x) (λ e. CutOff does fails s Stored Storing bytes e t) → WritesSo does fails (storing bytes) Q s r t
    stored_once (Ok x) (d, q) =
        record { events = Stored bytes ∷ []; went = next (Stored bytes) nothing d; good = record { no_read = refl; whole = append-nil (storing bytes); answer = q } }
    stored_once (Err e) c =
        cut_stops does fails (IsWrittenInPart (storing bytes)) s t Stored Storing bytes e
        (λ front rest split.
        record { no_read = refl; part = record { rest = storing rest; split = ap storing split ∙ map-append ToStore front rest ∙ ap (λ l. l ++ storing rest) (sym (append-nil (storing front))) } }) c

  pub stored_at_once : {X : Type 0} (s t : S) (bytes : List ℕ) (r : Result X E)
      → MatchResult r (λ x. does s (Stored bytes) t) (λ e. CutOff does fails s Stored Storing bytes e t) → WritesSo does fails (storing bytes) (λ x. Unit {0}) s r t
  stored_at_once {X} s t bytes (Ok x) d = stored_once (λ (x : X). Unit {0}) s t bytes (Ok x) (d, tt)
  stored_at_once {X} s t bytes (Err e) c = stored_once (λ (x : X). Unit {0}) s t bytes (Err e) c

  pub none_written : {X : Type 0} (Q : X → Type 0) (s : S) (x : X) → Q x → WritesSo {E = E} does fails [] Q s (Ok x) s
  none_written Q s x q = record { events = []; went = nothing; good = record { no_read = refl; whole = refl; answer = q } }

  -- ---- one after another
  pub written_then : {X Y : Type 0} (P : X → Type 0) (Q : Y → Type 0) (s t u : S) (first second : List Written) (x : X) (r : Result Y E)
      → WritesSo does fails first P s (Ok x) t → WritesSo does fails second Q t r u → WritesSo does fails (first ++ second) Q s r u
  written_then P Q s t u first second x r p q =
      let none = p.good.no_read in
      worked_after does fails _ _ _ _ s t u p.events r p.went
      (λ es y g.
      record {
        no_read = flat_map-append file_read_by p.events es ∙ (λ i. none i ++ g.no_read i);
        whole = flat_map-append written_by p.events es ∙ (λ i. p.good.whole i ++ g.whole i);
        answer = g.answer;
      })
      (λ es call g.
      record {
        no_read = reads_before p.events es (unread call) g.no_read ∙ none;
        part = subst (λ l. IsFront l (first ++ second)) (ap (λ l. l ++ written es) (sym p.good.whole) ∙ sym (flat_map-append written_by p.events es)) (front_behind first (written es) second g.part);
      }) q

  -- where the first fails, all does
  pub written_short : {Y : Type 0} (Q : Y → Type 0) (s t : S) (first second : List Written) (e : E) (r : Result Y E)
      → Stopped does fails (IsWrittenInPart first) s e t → r ≡ Err e → WritesSo does fails (first ++ second) Q s r t
  written_short Q s t first second e r p is =
      subst (λ r. WritesSo does fails (first ++ second) Q s r t) (sym is)
      (record {
        events = p.events;
        call = p.call;
        before = p.before;
        went = p.went;
        failed = p.failed;
        part = record {
          no_read = p.part.no_read;
          part = record {
            rest = p.part.part.rest ++ second;
            split = ap (λ l. l ++ second) p.part.part.split ∙ append_assoc (written p.events) p.part.part.rest second;
          };
        };
      })

  -- where it ends well this holds too
  pub written_with : {X : Type 0} (P Q : X → Type 0) (s t : S) (all : List Written) (r : Result X E) → WritesSo does fails all P s r t → IfOk r Q → WritesSo does fails all Q s r t
  written_with P Q s t all (Ok x) p q = record { events = p.events; went = p.went; good = record { no_read = p.good.no_read; whole = p.good.whole; answer = q } }
  written_with P Q s t all (Err e) p q = p

  -- what is known of the answer tells more of it
  pub written_as : {X : Type 0} (P Q : X → Type 0) → ((x : X) → P x → Q x) → (s t : S) (all : List Written) (r : Result X E) → WritesSo does fails all P s r t → WritesSo does fails all Q s r t
  written_as P Q on s t all (Ok x) p = record { events = p.events; went = p.went; good = record { no_read = p.good.no_read; whole = p.good.whole; answer = on x p.good.answer } }
  written_as P Q on s t all (Err e) p = p

  -- ---- a call that is the last, or that fails, and then this is answered
  module _ {X : Type 0} (s t : S) (bytes text : List ℕ) (is : bytes ≡ text) where
    pub printed_last : (answer : X) → does s (Printed bytes) t → Writes {E = E} does fails (printing text) answer s (Ok answer) t
    printed_last answer did = subst (λ l. Writes {E = E} does fails (printing l) answer s (Ok answer) t) is (printed_once (λ x. x ≡ answer) s t bytes (Ok answer) (did, refl))

    pub print_cut : (answer : X) (e : E) (r : Result X E) → CutOff does fails s Printed Printing bytes e t → r ≡ Err e → Writes does fails (printing text) answer s r t
    print_cut answer e r cut failed =
        subst (λ (k : List ℕ × Result X E). Writes does fails (printing k.0) answer s k.1 t) (λ i. (is i, sym failed i)) (printed_once (λ x. x ≡ answer) s t bytes (Err e) cut)

    -- and then more is written
    pub stored_first : (u : S) (more : List Written) (answer : X) (r : Result X E) → does s (Stored bytes) t → Writes does fails more answer t r u → Writes does fails (storing text ++ more) answer s r u
    stored_first u more answer r did after =
        subst (λ l. Writes does fails (storing l ++ more) answer s r u) is
        (written_then (λ x. Unit {0}) (λ x. x ≡ answer) s t u (storing bytes) more (tt {0}) r (stored_once {X = Unit {0}} (λ x. Unit {0}) s t bytes (Ok (tt {0})) (did, tt)) after)

    pub store_cut : (more : List Written) (answer : X) (e : E) (r : Result X E) → CutOff does fails s Stored Storing bytes e t → r ≡ Err e → Writes does fails (storing text ++ more) answer s r t
    store_cut more answer e r cut failed =
        subst (λ l. Writes does fails (storing l ++ more) answer s r t) is
        (written_short (λ x. x ≡ answer) s t (storing bytes) more e r (stored_once {X = Unit {0}} (λ x. Unit {0}) s t bytes (Err e) cut) failed)
