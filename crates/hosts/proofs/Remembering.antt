-- A work over files in memory that is at its end.
use Rattle.std.proofs.Common.{◌≡◌, ℕ, Bool, List, [], ◌∷◌, ◌++◌, take, drop, refl, sym, ap, ◌∙◌}
use Rattle.std.proofs.Math.Seq.{take-add}
use Rattle.std.proofs.lemmas.List.{append-nil, drop-drop}
use Rattle.std.proofs.lemmas.List.Concat.{flat_map-append}
use Rattle.std.proofs.lemmas.List.Sums.{sum_by_push}
use Rattle.hosts.specs.Events.{Event, Fits, bytes_asked, asked_by, bytes_came, came_by, printed, printed_by, stored, stored_by}
use Rattle.hosts.specs.Memory.{Remembers}
use Rattle.hosts.specs.Pages.{ShowsBehind, NeverFails}
use Rattle.hosts.specs.Traces.{Went, nothing, next}
use Rattle.hosts.specs.Works.{Finished}
use Rattle.hosts.specs.declared.memories.Memory.{Memory}
use Rattle.hosts.proofs.Showing.{shown}

module _ {T F : Type 0} (same : F → F → Bool) (left : T → F → List ℕ) (m : Memory T) where
  left_after : (n : Memory T) (es : List (Event F)) → Went (Remembers same left) m es n → (f : F) → left n.files f ≡ drop (bytes_asked (same f) es) (left m.files f)
  left_after n es nothing f = refl
  left_after n es (next {t = o} {es = first} e w d) f =
      d.taken.left f ∙ ap (drop (asked_by (same f) e)) (left_after o first w f) ∙ drop-drop (asked_by (same f) e) (bytes_asked (same f) first) (left m.files f)
      ∙ ap (λ k. drop k (left m.files f)) (sym (sum_by_push (asked_by (same f)) first e))

  pub fits : (n : Memory T) (es : List (Event F)) → Went (Remembers same left) m es n → Fits same (left m.files) es
  fits n es nothing f = refl
  fits n es (next {t = o} {es = first} e w d) f =
      let whole = left m.files f in
      let before = bytes_asked (same f) first in
      flat_map-append (came_by (same f)) first (e ∷ []) ∙ ap (λ bs. bytes_came (same f) first ++ bs) (append-nil (came_by (same f) e))
      ∙ (λ i. fits o first w f i ++ d.taken.came f i) ∙ ap (λ bs. take before whole ++ take (asked_by (same f) e) bs) (left_after o first w f)
      ∙ sym (take-add before (asked_by (same f) e) whole) ∙ ap (λ k. take k whole) (sym (sum_by_push (asked_by (same f)) first e))

  pub printed_shown : (n : Memory T) (es : List (Event F)) → Went (Remembers same left) m es n → ShowsBehind m.printed.now (printed es) n.printed.now
  printed_shown n es w = shown (Remembers same left) (λ s. s.printed.now) printed_by (λ s t e d. d.printed) m n es w

  pub stored_shown : (n : Memory T) (es : List (Event F)) → Went (Remembers same left) m es n → ShowsBehind m.stored.now (stored es) n.stored.now
  stored_shown n es w = shown (Remembers same left) (λ s. s.stored.now) stored_by (λ s t e d. d.stored) m n es w

  -- the pages are those that were lent
  lenders : (n : Memory T) (es : List (Event F)) → Went (Remembers same left) m es n → (n.printed.ghost_name ≡ m.printed.ghost_name) × (n.stored.ghost_name ≡ m.stored.ghost_name)
  lenders n es nothing = (refl, refl)
  lenders n es (next {t = o} {es = first} e w d) = let before = lenders o first w in (d.same_printed ∙ before.0, d.same_stored ∙ before.1)

  module _ {X : Type 0} (Good : List (Event F) → X → Type 0) (n : Memory T) (x : X) (run : Finished (Remembers same left) NeverFails Good m x n) where
    pub same_printed : n.printed.ghost_name ≡ m.printed.ghost_name
    same_printed = (lenders n run.events run.went).0

    pub same_stored : n.stored.ghost_name ≡ m.stored.ghost_name
    same_stored = (lenders n run.events run.went).1
