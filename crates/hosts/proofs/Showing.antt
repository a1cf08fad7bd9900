-- Texts that come onto a page.
use Rattle.std.proofs.Common.{◌≡◌, ℕ, ◌-◌, min, List, [], ◌∷◌, ◌++◌, length, take, drop, flat_map, Ok, Err, Result, sym, ap, ◌∙◌, subst, append_assoc, arith, rules}
use Rattle.std.proofs.lemmas.List.{places, same_lists, append-nil}
use Rattle.std.proofs.lemmas.List.Concat.{flat_map-append}
use Rattle.std.specs.declared.convert.Infallible.{Infallible}
use Rattle.hosts.specs.declared.pages.Page.{Page}
use Rattle.hosts.specs.Events.{printed_by}
use Rattle.hosts.specs.Traces.{Went, nothing, next}
use Rattle.hosts.specs.Writing.{output_in, Prints}
use Rattle.hosts.proofs.Writing.{printed-written, output-printing}
use Rattle.hosts.specs.Pages.{onto_page, Shows, ShowsBehind, ShowsMore, NeverFails}
use Rattle.hosts.specs.inner.Filling.{Filled}

-- the bytes that have room, written behind so many
pub written_behind : (page text : List ℕ) (at i n : ℕ) → i ≡ min at (length page) → n ≡ min (length text) (length page - i) → take i page ++ (take n text ++ drop n (drop i page)) ≡ onto_page (take at page ++ text) page
written_behind page text at i n e f = same_lists _ _ (search (rules, places)) (λ k d h. grind (arith, places))

pub shows_none : (p : Page) → ShowsBehind p [] p
shows_none p lent before h = subst (λ t. Shows lent t p) (sym (append-nil before)) h

-- what one call after another shows on a page
pub shown : {S V : Type 0} (does : S → V → S → Type 0) (page : S → Page) (text : V → List ℕ)
    → ((s t : S) (e : V) → does s e t → ShowsBehind (page s) (text e) (page t))
    → (s t : S) (es : List V) → Went does s es t → ShowsBehind (page s) (flat_map text es) (page t)
shown does page text each s t es nothing lent before h = shows_none (page s) lent before h
shown does page text each s t es (next {t = m} {es = first} e w d) lent before h =
    let split : flat_map text (first ++ (e ∷ [])) ≡ flat_map text first ++ text e = flat_map-append text first (e ∷ []) ∙ ap (λ bs. flat_map text first ++ bs) (append-nil (text e)) in
    subst (λ bs. Shows lent bs (page t)) (append_assoc before (flat_map text first) (text e) ∙ ap (λ bs. before ++ bs) (sym split))
    (each m t e d lent (before ++ flat_map text first) (shown does page text each s m first w lent before h))

-- what is printed on an empty page is what it shows
pub printed_shown : {X : Type 0} (p q : Page) (text : List ℕ) (r : Result X Infallible) → Prints ShowsMore NeverFails text p r q → Filled p q text
printed_shown p q text (Ok x) done lent empty =
    subst (λ t. Shows lent t q) (printed-written done.events ∙ ap output_in done.good.whole ∙ output-printing text) (shown ShowsMore (λ p. p) printed_by (λ s t e d. d) p q done.events done.went lent [] empty)
printed_shown p q text (Err e) done lent empty = absurd done.failed
