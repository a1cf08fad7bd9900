-- What is listed has its line in a report, and what such lines settle.
use Rattle.std.proofs.Common.{◌≡◌, ◌⊎◌, ℕ, Bool, true, false, eqb, List, [], ◌∷◌, ◌++◌, map, get_or, Option, Some, None, All, Contains, IsTrue, IsFalse, refl, ap, ◌∙◌, inl, inr, arith}
use Rattle.std.specs.Prelude.{codes, decimal, flat_map}
use Rattle.std.specs.List.{list_all}
use Rattle.std.proofs.Math.ListN.{get_or-map}
use Rattle.std.proofs.lemmas.Bool.{and_from, and_parts}
use Rattle.std.proofs.lemmas.Bool.Decides.{nat_tests}
use Rattle.std.proofs.lemmas.List.{length-map}
use Rattle.std.proofs.lemmas.List.Elements.{All-weaker, All-append, All-nil, All-cons, All-contains, All-contains_itself, Contains-append_left, Contains-append_right}
use Rattle.std.proofs.lemmas.Map.Views.{Contains-from_any}
use Rattle.motion.specs.Laws.{Apart}
use Rattle.motion.specs.Depths.{window_at}
use Rattle.motion.specs.declared.shapes.Kind.{Kind}
use Rattle.motion.specs.declared.shapes.Kind.TheVariants.{Vf, Ee}
use Rattle.inspection.specs.declared.classes.Tally.{Tally}
use Rattle.inspection.specs.declared.names.VfName.{VfName}
use Rattle.inspection.specs.declared.names.EeName.{EeName}
use Rattle.inspection.specs.declared.offerings.Offering.{Offering}
use Rattle.inspection.specs.Lists.{has}
use Rattle.inspection.proofs.NamingLaws.{NamingLaws, alike, vf_laws, ee_laws}
use Rattle.inspection.specs.Names.{vf_same, ee_same}
use Rattle.inspection.specs.Offerings.{SameOffering}
use Rattle.inspection.specs.Sheets.{Sheet}
use Rattle.inspection.specs.States.{Entries}
use Rattle.inspection.specs.Tallies.{tally_in}
use Rattle.inspection.specs.Tests.{Naming, vf_naming, ee_naming}
use Rattle.report.specs.Lines.{kind_word, spaced, line, window_parts, vf_line, ee_line, count_line}
use Rattle.report.specs.Reports.{View, entry_line, numbered_entries, section, report_text}
use Rattle.report.specs.Settled.{IsTold, TestsSettled, Settled, is_fault}
use Rattle.report.proofs.WholeLines.{no_feed, AreLines, are_one, are_more, are_each, no_feed-append, no_feed-decimal}

-- ---- the lines of a report
no_feed-spaced : (ps : List (List ℕ)) → list_all no_feed ps ≡ true → no_feed (spaced ps) ≡ true
no_feed-spaced [] h = refl
no_feed-spaced (p ∷ ps) h =
    let both = and_parts (no_feed p) (list_all no_feed ps) h in
    no_feed-append (codes " " ++ p) (spaced ps) (no_feed-append (codes " ") p refl both.0) (no_feed-spaced ps both.1)

no_feed-line : (l : Kind) (ps : List (List ℕ)) → list_all no_feed ps ≡ true → no_feed (line l ps) ≡ true
no_feed-line Vf ps h = no_feed-append (kind_word Vf) (spaced ps) refl (no_feed-spaced ps h)
no_feed-line Ee ps h = no_feed-append (kind_word Ee) (spaced ps) refl (no_feed-spaced ps h)

no_feed-window : (w : Option (ℕ × ℕ)) → list_all no_feed (window_parts w) ≡ true
no_feed-window None = refl
no_feed-window (Some w) = and_from _ _ (no_feed-decimal w.0) (and_from _ _ (no_feed-decimal w.1) refl)

no_feed-vf : (e : VfName) (w : Option (ℕ × ℕ)) → no_feed (vf_line e w) ≡ true
no_feed-vf e w =
    no_feed-line Vf (decimal e.point ∷ decimal e.face ∷ window_parts w)
    (and_from _ _ (no_feed-decimal e.point) (and_from _ _ (no_feed-decimal e.face) (no_feed-window w)))

no_feed-ee : (e : EeName) (w : Option (ℕ × ℕ)) → no_feed (ee_line e w) ≡ true
no_feed-ee e w =
    no_feed-line Ee (decimal e.u ∷ decimal e.v ∷ decimal e.k ∷ decimal e.l ∷ window_parts w)
    (and_from _ _ (no_feed-decimal e.u) (and_from _ _ (no_feed-decimal e.v) (and_from _ _ (no_feed-decimal e.k) (and_from _ _ (no_feed-decimal e.l) (no_feed-window w)))))

no_feed-count : (l : Kind) (t : Tally) → no_feed (count_line l t) ≡ true
no_feed-count l t =
    no_feed-line l
    (codes "kept" ∷ decimal t.kept ∷ codes "struck" ∷ decimal t.struck ∷ codes "shared" ∷ decimal t.shared ∷ codes "repeated" ∷ decimal t.repeated ∷ [])
    (and_from _ _ (no_feed-decimal t.kept) (and_from _ _ (no_feed-decimal t.struck) (and_from _ _ (no_feed-decimal t.shared) (and_from _ _ (no_feed-decimal t.repeated) refl))))

-- with which byte a line begins
abbrev pub begins : ℕ → List ℕ → Bool
begins b l = eqb (get_or l 0 0) b

-- it is not the last line of a run from two frames
pub record IsInner (l : List ℕ) : Type 0 where
  pub covered : begins 99 l ≡ false
  pub refused : begins 114 l ≡ false

-- and it tells no fault
pub record IsPlain (l : List ℕ) : Type 0 where
  pub inner : IsInner l
  pub fault : is_fault l ≡ false

count_plain : (l : Kind) (t : Tally) → IsPlain (count_line l t)
count_plain Vf t = record { inner = record { covered = refl; refused = refl }; fault = refl }
count_plain Ee t = record { inner = record { covered = refl; refused = refl }; fault = refl }

module _ {E : Type 0} (n : Naming E) (l : Kind) (v : View) (line_of : E → Option (ℕ × ℕ) → List ℕ) (whole : (e : E) (w : Option (ℕ × ℕ)) → no_feed (line_of e w) ≡ true) (inner : (e : E) (w : Option (ℕ × ℕ)) → IsPlain (line_of e w)) where
  abbrev lined : E → List ℕ
  lined e = line_of e (window_at v.set v.core.depth (n.shape v.sheet e))

  module _ (es : List E) (t : Tally) where
    abbrev section_lines : List (List ℕ)
    section_lines = map lined (numbered_entries es) ++ (count_line l t ∷ [])

    section_are : AreLines (section n l v line_of es t) section_lines
    section_are =
        are_more (flat_map (entry_line n v line_of) (numbered_entries es)) (count_line l t ++ codes "\n") (map lined (numbered_entries es)) (count_line l t ∷ [])
        (are_each lined (λ e. whole e _) (numbered_entries es)) (are_one (count_line l t) (no_feed-count l t))

    section_plain : All IsPlain section_lines
    section_plain =
        All-append IsPlain (map lined (numbered_entries es)) (count_line l t ∷ []) (each (numbered_entries es)) (All-cons IsPlain (count_line l t) [] (count_plain l t) (All-nil IsPlain))
      where
        each : (xs : List E) → All IsPlain (map lined xs)
        each [] = All-nil IsPlain
        each (x ∷ xs) = All-cons IsPlain (lined x) (map lined xs) (inner x _) (each xs)

    in_section : (e : E) → Contains (numbered_entries es) e → Contains section_lines (lined e)
    in_section e (k, here, is) =
        Contains-append_left (map lined (numbered_entries es)) (count_line l t ∷ []) (lined e)
        (k, omega (arith, length-map (numbered_entries es) lined), get_or-map lined (numbered_entries es) k e ∙ ap lined is)

vf_plain : (e : VfName) (w : Option (ℕ × ℕ)) → IsPlain (vf_line e w)
vf_plain e w = record { inner = record { covered = refl; refused = refl }; fault = refl }

ee_plain : (e : EeName) (w : Option (ℕ × ℕ)) → IsPlain (ee_line e w)
ee_plain e w = record { inner = record { covered = refl; refused = refl }; fault = refl }

vf_equal : (x y : VfName) → vf_same x y ≡ true → x ≡ y
vf_equal x y h = grind (arith, nat_tests)

ee_equal : (x y : EeName) → ee_same x y ≡ true → x ≡ y
ee_equal x y h = grind (arith, nat_tests)

-- ---- of both lists
module _ (v : View) (es : Entries) where
  abbrev vf_lines : List (List ℕ)
  vf_lines = section_lines vf_naming Vf v vf_line no_feed-vf vf_plain es.vf (tally_in Vf v.core.tallies)

  abbrev ee_lines : List (List ℕ)
  ee_lines = section_lines ee_naming Ee v ee_line no_feed-ee ee_plain es.ee (tally_in Ee v.core.tallies)

  pub report_lines : List (List ℕ)
  report_lines = vf_lines ++ ee_lines

  pub report_are : AreLines (report_text v es) report_lines
  unfolding report_text report_lines
  report_are =
      are_more (section vf_naming Vf v vf_line es.vf (tally_in Vf v.core.tallies)) (section ee_naming Ee v ee_line es.ee (tally_in Ee v.core.tallies)) vf_lines ee_lines
      (section_are vf_naming Vf v vf_line no_feed-vf vf_plain es.vf (tally_in Vf v.core.tallies))
      (section_are ee_naming Ee v ee_line no_feed-ee ee_plain es.ee (tally_in Ee v.core.tallies))

  pub report_plain : All IsPlain report_lines
  unfolding report_lines
  report_plain =
      All-append IsPlain vf_lines ee_lines
      (section_plain vf_naming Vf v vf_line no_feed-vf vf_plain es.vf (tally_in Vf v.core.tallies))
      (section_plain ee_naming Ee v ee_line no_feed-ee ee_plain es.ee (tally_in Ee v.core.tallies))

  -- what is listed has its line
  pub vf_told : (e : VfName) → has vf_same e (numbered_entries es.vf) ≡ true → (w : Option (ℕ × ℕ)) × Contains report_lines (vf_line e w)
  unfolding report_lines
  vf_told e h = (
    window_at v.set v.core.depth (vf_naming.shape v.sheet e),
    Contains-append_left vf_lines ee_lines _
        (in_section vf_naming Vf v vf_line no_feed-vf vf_plain es.vf (tally_in Vf v.core.tallies) e (Contains-from_any vf_equal e (numbered_entries es.vf) h)),
  )

  pub ee_told : (e : EeName) → has ee_same e (numbered_entries es.ee) ≡ true → (w : Option (ℕ × ℕ)) × Contains report_lines (ee_line e w)
  unfolding report_lines
  ee_told e h = (
    window_at v.set v.core.depth (ee_naming.shape v.sheet e),
    Contains-append_right vf_lines ee_lines _
        (in_section ee_naming Ee v ee_line no_feed-ee ee_plain es.ee (tally_in Ee v.core.tallies) e (Contains-from_any ee_equal e (numbered_entries es.ee) h)),
  )

-- ---- what is not listed stays apart, and what is listed is told
pub settled_tests : {E : Type 0} (n : Naming E) (line_of : E → Option (ℕ × ℕ) → List ℕ) (s : Sheet) (text : List ℕ) (es : List E) (o : Offering)
    → ((e : E) → has n.same e es ≡ true → IsTold text (line_of e))
    → All (λ e. IsFalse (n.shared s e) → IsFalse (has n.same e es) → Apart (n.shape s e)) (n.tests s o)
    → TestsSettled n line_of s text o
settled_tests {E} n line_of s text es o told apart =
    All-weaker (λ e. IsFalse (n.shared s e) → IsFalse (has n.same e es) → Apart (n.shape s e)) (λ e. IsTrue (n.shared s e) ⊎ (IsTold text (line_of e) ⊎ Apart (n.shape s e)))
    (λ e h. by e h (n.shared s e) refl (has n.same e es) refl) (n.tests s o) apart
  where
    by : (e : E) → (IsFalse (n.shared s e) → IsFalse (has n.same e es) → Apart (n.shape s e)) → (a : Bool) → n.shared s e ≡ a → (b : Bool) → has n.same e es ≡ b → IsTrue (n.shared s e) ⊎ (IsTold text (line_of e) ⊎ Apart (n.shape s e))
    by e h true is b in_list = inl is
    by e h false is true in_list = inr (inl (told e in_list))
    by e h false is false in_list = inr (inr (h is in_list))

-- two faces are settled in either order
turned_tests : {E : Type 0} (n : Naming E) (each : ℕ) (line_of : E → Option (ℕ × ℕ) → List ℕ) (s : Sheet) (text : List ℕ) → NamingLaws n each s
    → (o p : Offering) → SameOffering o p → TestsSettled n line_of s text p → TestsSettled n line_of s text o
turned_tests {E} n each line_of s text laws o p same settled =
    All-weaker (Contains (n.tests s o)) Here (λ e c. by e c (n.shared s e) refl) (n.tests s o) (All-contains_itself (n.tests s o))
  where
    Here : E → Type 0
    Here e = IsTrue (n.shared s e) ⊎ (IsTold text (line_of e) ⊎ Apart (n.shape s e))

    by : (e : E) → Contains (n.tests s o) e → (a : Bool) → n.shared s e ≡ a → Here e
    by e c true is = inl is
    by e c false is = All-contains Here (n.tests s p) e settled (alike n each s laws o p same e c is)

pub settled_turned : (s : Sheet) (text : List ℕ) (o p : Offering) → SameOffering o p → Settled s text p → Settled s text o
settled_turned s text o p same settled =
    record {
      vf = turned_tests vf_naming 6 vf_line s text (vf_laws s) o p same settled.vf;
      ee = turned_tests ee_naming 9 ee_line s text (ee_laws s) o p same settled.ee;
    }

pub settled_apart : {E : Type 0} (n : Naming E) (line_of : E → Option (ℕ × ℕ) → List ℕ) (s : Sheet) (text : List ℕ) (o : Offering)
    → All (λ e. Apart (n.shape s e)) (n.tests s o) → TestsSettled n line_of s text o
settled_apart n line_of s text o apart =
    All-weaker (λ e. Apart (n.shape s e)) (λ e. IsTrue (n.shared s e) ⊎ (IsTold text (line_of e) ⊎ Apart (n.shape s e))) (λ e a. inr (inr a)) (n.tests s o) apart
