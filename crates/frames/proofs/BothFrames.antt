-- Whole texts whose first bytes were read: what they say of the step between them.
use Rattle.std.proofs.Common.{◌≡◌, ℕ, ◌+◌, List, [], ◌∷◌, ◌++◌, take, Some, None, Option, Ok, Err, Result, refl, sym, ap, subst, ◌∙◌, append-nil, length, length-take, arith}
use Rattle.std.proofs.lemmas.List.{take_all}
use Rattle.hosts.specs.Events.{Event, Call, Reading, Read, files_read}
use Rattle.hosts.specs.Traces.{Went, nothing, next}
use Rattle.hosts.specs.Works.{IsFront}
use Rattle.hosts.specs.Writing.{written}
use Rattle.sheet.specs.Faults.{notice_of_sheet}
use Rattle.sheet.specs.Sheet.{text_limit}
use Rattle.sheet.specs.declared.drafts.Draft.{Draft}
use Rattle.sheet.specs.declared.faults.SheetFault.{SheetFault}
use Rattle.sheet.specs.declared.notices.Notice.{Notice}
use Rattle.sheet.specs.declared.rows.Face.{Face}
use Rattle.sheet.specs.declared.rows.Point.{Point}
use Rattle.frames.specs.Comparing.{difference_of, ending_at}
use Rattle.frames.specs.Frames.{Frames, points_of, needed_frames, difference_between}
use Rattle.frames.specs.Reading.{FramesSay, FramesRead}
use Rattle.frames.specs.inner.ReadFrame.{ReadsFrames}
use Rattle.frames.specs.inner.ReadFrame.{Says, FrameRead}
use Rattle.frames.specs.declared.comparing.Difference.{Difference}
use Rattle.frames.specs.declared.frame_files.FrameFile.{FrameFile}
use Rattle.frames.specs.declared.frame_files.FrameFile.TheVariants.{Start, End}
use Rattle.frames.specs.declared.frame_files.NoStep.{NoStep}
use Rattle.frames.specs.declared.frame_files.NoStep.TheVariants.{Faulty, Different}
use Rattle.frames.proofs.Between.{same_count}
use Rattle.frames.proofs.FrameLaws.{take-ending_at}

module _ {S E : Type 0} (does : S → Event FrameFile → S → Type 0) (fails : S → Call FrameFile → E → S → Type 0) where
  -- ---- so far was read, and so it ends
  module _ (s t : S) (reads : List (Event FrameFile)) (reads_only : written reads ≡ []) (went : Went does s reads t) (ps : List Point) (fs : List Face) where
    stops_at : (u : S) (file : FrameFile) (e : E) (r : Result (Result Draft NoStep) E) → ((f : Frames) → ReadsFrames f reads → IsFront (files_read reads ++ (file ∷ [])) (needed_frames f))
        → fails t (Reading file) e u → r ≡ Err e → FramesRead does fails ps fs s r u
    unfolding FramesRead
    stops_at u file e r front failed is =
        rw is
        (record { events = reads; call = Reading file; before = t; went = went; failed = failed; part = record { reads_only = reads_only; files = front } })

    ends_so : (read : Result Draft NoStep) → ((f : Frames) → ReadsFrames f reads → FramesSay ps fs f read × (files_read reads ≡ needed_frames f)) → FramesRead does fails ps fs s (Ok read) t
    unfolding FramesRead
    ends_so read says = record { events = reads; went = went; good = record { reads_only = reads_only; says = says } }

  says : (file : FrameFile) {s t : S} {ps : List Point} {fs : List Face} {read : Result Draft SheetFault} (r : FrameRead does file s ps fs read t)
      (x : Result Draft SheetFault) → read ≡ x → (text : List ℕ) → r.came ++ [] ≡ take (text_limit + 1) text → Says text ps fs x
  says file {ps = ps} {fs = fs} r x is text h = subst (Says text ps fs) is (r.says text (sym (append-nil r.came) ∙ h))

  -- ---- the six ways through the reading: which frames were read, and what they said
  pub first_unread : (s t : S) (ps : List Point) (fs : List Face) (e : E) (r : Result (Result Draft NoStep) E) → fails s (Reading Start) e t → r ≡ Err e → FramesRead does fails ps fs s r t
  first_unread s t ps fs e r = stops_at s s [] refl nothing ps fs t Start e r (λ f h. record { rest = _; split = refl })

  module _ (s t : S) (ps : List Point) (fs : List Face) (read : Result Draft SheetFault) (first : FrameRead does Start s ps fs read t) where
    abbrev one : List (Event FrameFile)
    one = Read Start (text_limit + 1) first.came ∷ []

    one_went : Went does s one t
    one_went = next (Read Start (text_limit + 1) first.came) nothing first.did

    pub first_faulty : (qs : List Point) (gs : List Face) (fault : SheetFault) (n : Notice) → read ≡ Err fault → n ≡ notice_of_sheet fault → FramesRead does fails qs gs s (Ok (Err (Faulty Start n))) t
    first_faulty qs gs fault n is told =
        ends_so s t one refl one_went qs gs (Err (Faulty Start n))
        (λ f h. let bad = says Start first (Err fault) is f.start (h Start) in (rw (bad, told) refl, rw bad refl))

    module _ (d : Draft) (good : read ≡ Ok d) where
      pub second_unread : (u : S) (qs : List Point) (gs : List Face) (e : E) (r : Result (Result Draft NoStep) E) → fails t (Reading End) e u → r ≡ Err e → FramesRead does fails qs gs s r u
      second_unread u qs gs e r =
          stops_at s t one refl one_went qs gs u End e r
          (λ f h. rw (says Start first (Ok d) good f.start (h Start)).no_fault (record { rest = []; split = refl }))

      module _ (u : S) (qs : List Point) (gs : List Face) (read_too : Result Draft SheetFault) (second : FrameRead does End t qs gs read_too u) where
        abbrev two : List (Event FrameFile)
        two = Read Start (text_limit + 1) first.came ∷ (Read End (text_limit + 1) second.came ∷ [])

        two_went : Went does s two u
        two_went = next (Read End (text_limit + 1) second.came) one_went second.did

        pub second_faulty : (rs : List Point) (hs : List Face) (fault : SheetFault) (n : Notice) → read_too ≡ Err fault → n ≡ notice_of_sheet fault → FramesRead does fails rs hs s (Ok (Err (Faulty End n))) u
        second_faulty rs hs fault n is told =
            ends_so s u two refl two_went rs hs (Err (Faulty End n))
            (λ f h.
            let a = (says Start first (Ok d) good f.start (h Start)).no_fault in
            (rw (a, says End second (Err fault) is f.end (h End), told) refl, rw a refl))

        module _ (e : Draft) (good_too : read_too ≡ Ok e) where
          abbrev difference : Option Difference
          difference = difference_of d (take d.faces fs) e (take e.faces gs)

          same_difference : (f : Frames) → ReadsFrames f two → difference ≡ difference_between f
          same_difference f h =
              let a = says Start first (Ok d) good f.start (h Start) in
              let b = says End second (Ok e) good_too f.end (h End) in
              λ i. difference_of (a.draft i) (a.faces i) (b.draft i) (b.faces i)

          pub both_differ : (rs : List Point) (hs : List Face) (x : Difference) → Some x ≡ difference_of d (take d.faces fs) e (take e.faces gs) → FramesRead does fails rs hs s (Ok (Err (Different x))) u
          both_differ rs hs x is =
              ends_so s u two refl two_went rs hs (Err (Different x))
              (λ f h.
              let a = (says Start first (Ok d) good f.start (h Start)).no_fault in
              let b = (says End second (Ok e) good_too f.end (h End)).no_fault in
              (rw (a, b, ← same_difference f h, ← is) refl, rw a refl))

          pub both_same : (rs ends : List Point) → None ≡ difference_of d (take d.faces fs) e (take e.faces gs) → ends ≡ take e.points qs → rs ≡ ending_at ps ends → FramesRead does fails rs fs s (Ok (Ok d)) u
          both_same rs ends is taken laid =
              ends_so s u two refl two_went rs fs (Ok d)
              (λ f h.
              let a = says Start first (Ok d) good f.start (h Start) in
              let b = says End second (Ok e) good_too f.end (h End) in (
                record {
                  is_step = rw (a.no_fault, b.no_fault, ← same_difference f h, ← is) refl;
                  draft = a.draft;
                  points = ap (take d.points) laid ∙ take-ending_at d.points ps ends
                      ∙ (λ i. ending_at (a.points i) (take_all d.points ends (omega (arith, ap length taken, length-take e.points qs, same_count d e (take d.faces fs) (take e.faces gs) (sym is))) i)) ∙ ap (ending_at (points_of f.start)) (taken ∙ b.points);
                  faces = a.faces;
                },
                rw a.no_fault refl,
              ))
