-- The number, the layer and the two places of every fault of an inspection's calls, and of those
-- about slips: the refused number and 0.
use Rattle.sheet.specs.Checks.{notice}
use Rattle.sheet.specs.declared.notices.Layer.TheVariants.{Opening, Offer, Window, Slip}
use Rattle.sheet.specs.declared.notices.Notice.{Notice}
use Rattle.inspection.specs.declared.faults.OpeningFault.{OpeningFault}
use Rattle.inspection.specs.declared.faults.OpeningFault.TheVariants as opening
use Rattle.inspection.specs.declared.faults.OfferFault.{OfferFault}
use Rattle.inspection.specs.declared.faults.OfferFault.TheVariants as offer
use Rattle.inspection.specs.declared.faults.WindowFault.{WindowFault}
use Rattle.inspection.specs.declared.faults.WindowFault.TheVariants as window
use Rattle.inspection.specs.declared.faults.TakingFault.{TakingFault}
use Rattle.inspection.specs.declared.faults.TakingFault.TheVariants as taking
use Rattle.inspection.specs.declared.faults.ReturnFault.{ReturnFault}
use Rattle.inspection.specs.declared.faults.ReturnFault.TheVariants as return
use Rattle.inspection.specs.declared.faults.StandingFault.{StandingFault}
use Rattle.inspection.specs.declared.faults.StandingFault.TheVariants as standing

abbrev pub notice_of_opening : OpeningFault → Notice
notice_of_opening (opening.TooDeep d) = notice 15 Opening d 0

abbrev pub notice_of_offer : OfferFault → Notice
notice_of_offer offer.TableTooShort = notice 16 Offer 0 0
notice_of_offer (offer.NoSuchFace f) = notice 17 Offer f 0
notice_of_offer (offer.SameFace f) = notice 18 Offer f 0
notice_of_offer (offer.NoSuchPoint f) = notice 19 Offer f 0
notice_of_offer offer.TooManyOffers = notice 20 Offer 0 0
notice_of_offer offer.ListFull = notice 21 Offer 0 0

abbrev pub notice_of_window : WindowFault → Notice
notice_of_window window.TableTooShort = notice 16 Window 0 0
notice_of_window (window.NoSuchEntry i) = notice 22 Window i 0
notice_of_window (window.NotOfTheSheet i) = notice 19 Window i 0

abbrev pub notice_of_taking : TakingFault → Notice
notice_of_taking (taking.NoSuchReviewer q) = notice 26 Slip q 0
notice_of_taking (taking.NoSuchEntry i) = notice 22 Slip i 0
notice_of_taking (taking.NotFree i) = notice 27 Slip i 0

abbrev pub notice_of_return : ReturnFault → Notice
notice_of_return (return.NoSuchEntry i) = notice 22 Slip i 0
notice_of_return (return.NotTaken i) = notice 28 Slip i 0

abbrev pub notice_of_standing : StandingFault → Notice
notice_of_standing (standing.NoSuchEntry i) = notice 22 Slip i 0
