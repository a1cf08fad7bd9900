-- Events one after another.
use Rattle.std.proofs.Common.{◌≡◌, ℕ, ◌+◌, Bool, false, if◌then◌else◌, List, [], ◌∷◌, ◌++◌, take, All, refl, sym, ap, ◌∙◌, subst, append_assoc, zero-add, add-zero}
use Rattle.std.proofs.lemmas.List.{append-nil}
use Rattle.std.proofs.lemmas.List.Concat.{flat_map-append}
use Rattle.std.proofs.lemmas.List.Elements.{All-head, All-tail, All-nil}
use Rattle.std.proofs.lemmas.List.Sums.{sum_by-cons, sum_by-append}
use Rattle.hosts.specs.Events.{Event, Read, Printed, Stored, Call, Reading, files_read, file_read_by, unread, bytes_asked, bytes_came, asked_by, came_by, Fits}
use Rattle.hosts.specs.Traces.{Went, nothing, next}
use Rattle.hosts.proofs.Fronts.{none_before}

module _ {S V : Type 0} (does : S → V → S → Type 0) where
  pub went_first : {s t u : S} {es : List V} (e : V) → does s e t → Went does t es u → Went does s (e ∷ es) u
  went_first e d nothing = next e nothing d
  went_first e d (next e' w d') = next e' (went_first e d w) d'

  pub went_on : (s t u : S) (first es : List V) → Went does s first t → Went does t es u → Went does s (first ++ es) u
  went_on s t u first es w v = on s u es v
    where
      on : (s' u : S) (es : List V) → Went does t es u → Went does s (first ++ es) u
      on s' u es nothing = subst (λ l. Went does s l t) (sym (append-nil first)) w
      on s' u es (next {es = es'} e v d) = subst (λ l. Went does s l u) (append_assoc first es' (e ∷ [])) (next e (on s' _ es' v) d)

module _ {F : Type 0} where
  -- of a file that is not read nothing is asked for, and nothing comes
  module _ (is : F → Bool) where
    pub not_asked : (es : List (Event F)) → All (λ f. is f ≡ false) (files_read es) → bytes_asked is es ≡ 0
    not_asked [] none = refl
    not_asked (Printed bs ∷ es) none = not_asked es none
    not_asked (Stored bs ∷ es) none = not_asked es none
    not_asked (Read f n bs ∷ es) none =
        sum_by-cons (asked_by is) (Read f n bs) es ∙ ap (λ b. (if b then n else 0) + bytes_asked is es) (All-head (λ f. is f ≡ false) f (files_read es) none) ∙ zero-add (bytes_asked is es)
        ∙ not_asked es (All-tail (λ f. is f ≡ false) f (files_read es) none)

    pub not_came : (es : List (Event F)) → All (λ f. is f ≡ false) (files_read es) → bytes_came is es ≡ []
    not_came [] none = refl
    not_came (Printed bs ∷ es) none = not_came es none
    not_came (Stored bs ∷ es) none = not_came es none
    not_came (Read f n bs ∷ es) none =
        ap (λ b. (if b then bs else []) ++ bytes_came is es) (All-head (λ f. is f ≡ false) f (files_read es) none)
        ∙ not_came es (All-tail (λ f. is f ≡ false) f (files_read es) none)

  -- events before or behind others that do not read it
  module _ (is : F → Bool) (es gs : List (Event F)) where
    pub came_before : All (λ f. is f ≡ false) (files_read gs) → bytes_came is (es ++ gs) ≡ bytes_came is es
    came_before none = flat_map-append (came_by is) es gs ∙ ap (λ bs. bytes_came is es ++ bs) (not_came is gs none) ∙ append-nil (bytes_came is es)

    pub asked_before : All (λ f. is f ≡ false) (files_read gs) → bytes_asked is (es ++ gs) ≡ bytes_asked is es
    asked_before none = sum_by-append (asked_by is) es gs ∙ ap (λ k. bytes_asked is es + k) (not_asked is gs none) ∙ add-zero (bytes_asked is es)

    pub came_behind : All (λ f. is f ≡ false) (files_read es) → bytes_came is (es ++ gs) ≡ bytes_came is gs
    came_behind none = flat_map-append (came_by is) es gs ∙ ap (λ bs. bs ++ bytes_came is gs) (not_came is es none)

    pub asked_behind : All (λ f. is f ≡ false) (files_read es) → bytes_asked is (es ++ gs) ≡ bytes_asked is gs
    asked_behind none = sum_by-append (asked_by is) es gs ∙ ap (λ k. k + bytes_asked is gs) (not_asked is es none) ∙ zero-add (bytes_asked is gs)

  -- what reads nothing changes nothing of what came before it
  pub fits_before : (same : F → F → Bool) (bytes_of : F → List ℕ) (reads es : List (Event F)) → files_read es ≡ [] → Fits same bytes_of (reads ++ es) → Fits same bytes_of reads
  fits_before same bytes_of reads es none h f =
      let other : All (λ g. same f g ≡ false) (files_read es) = subst (All (λ g. same f g ≡ false)) (sym none) (All-nil (λ g. same f g ≡ false)) in
      sym (came_before (same f) reads es other) ∙ h f ∙ ap (λ k. take k (bytes_of f)) (asked_before (same f) reads es other)

  -- ---- events that read nothing behind others
  pub reads_before : (es gs : List (Event F)) (call : List F) → files_read gs ++ call ≡ [] → files_read (es ++ gs) ++ call ≡ files_read es
  reads_before es gs call none =
      ap (λ l. l ++ call) (flat_map-append file_read_by es gs) ∙ append_assoc (files_read es) (files_read gs) call ∙ ap (λ l. files_read es ++ l) none ∙ append-nil (files_read es)

  pub not_read : (is : F → Bool) (gs : List (Event F)) (call : List F) → files_read gs ++ call ≡ [] → All (λ f. is f ≡ false) (files_read gs)
  not_read is gs call none = subst (All (λ f. is f ≡ false)) (sym (none_before (files_read gs) call none)) (All-nil (λ f. is f ≡ false))

  -- they are not stopped by reading
  pub never_reads : (gs : List (Event F)) (call : Call F) (f : F) → files_read gs ++ unread call ≡ [] → call ≡ Reading f → ⊥
  never_reads gs call f none same = some (files_read gs) (ap (λ c. files_read gs ++ unread c) (sym same) ∙ none)
    where
      some : (files : List F) → files ++ (f ∷ []) ≡ [] → ⊥
      some [] none = cc
      some (g ∷ files) none = cc
