-- The three demands, one after the other, and what else is claimed of all calls. Each cites definitions alone: the promises of the calls
-- (`FramePost`, `OpenPost`, `BandPost`, `CountsPost`, `ReadPost`, `WritePost`, `RecordPost`, `MovePost`, `BuildPost`, `CheckPost`, `FindPost`,
-- `UpdatePost`, `PairingPost`, `PicturePost`, `ConvoyPost`, `OfferPost`, `StepPost`, `RequestPost`, `Begins`, and `..Kept` of the calls that C and Rust
-- link, the very predicates of their `ensures`), which hold of every call whatever it is given, and the rules, rows, planes, curves, files, summaries,
-- reports, convoys and desks that they speak of. Their proofs are `demand_1`, `demand_2` and `demand_3` of proofs/Demands.antt, `grey` of Grey.antt, `counts` of
-- Counts.antt, `shift_files` of ShiftFiles.antt, `shift_moves` of ShiftMoves.antt, `shift_summaries` of ShiftSummaries.antt, `shift_pairs` of
-- ShiftPairs.antt, `y4m_files` of Y4mFiles.antt, `convoys` of Convoys.antt and `desks` of Desks.antt.
-- Assumes nothing.
use Rattle.std.specs.Prelude.{ℕ, ◌+◌, ◌*◌, ◌-◌, ◌/◌, ◌^◌, ◌≤◌, ◌<◌, min, ◌≡◌, true, false, List, [], ◌∷◌, ◌++◌, ◌↔◌, ◌⊎◌, T, length, get_or, take, drop, Bool, Result, Ok, Err, IsOk, Option, None, Some}
use Rattle.yuv_support.specs.declared.YuvRange.{YuvRange}
use Rattle.yuv_support.specs.declared.YuvRange.TheVariants.{Limited}
use Rattle.yuv_support.specs.declared.YuvStandardMatrix.{YuvStandardMatrix}
use Rattle.yuv_support.specs.Matrix.{accepted}
use Rattle.yuv_error.specs.declared.YuvError.{YuvError}
use Rattle.yuv_error.specs.Numbers.{Numbers, numbers, numbers_of}
use Rattle.yuv_error.specs.Rules.{Rule, rule, matrix_rules}
use Rattle.yuv_error.specs.Lowest.{NoneHolds, Lowest}
use Rattle.sharp_gamma.specs.declared.SharpYuvGammaTransfer.{SharpYuvGammaTransfer}
use Rattle.sharp_gamma.specs.Fraction.{◌over◌}
use Rattle.sharp_gamma.specs.Curve.{curve_of, under_curve, under_inverse}
use Rattle.sharp_gamma.specs.declared.TableRounding.{TableRounding}
use Rattle.sharp_gamma.specs.Entry.{place, linear_entry, gamma_entry}
use Rattle.definitions.specs.declared.FrameDescription.{FrameDescription}
use Rattle.definitions.specs.declared.YuvSettings.{YuvSettings}
use Rattle.definitions.specs.Row.{pixels_of}
use Rattle.definitions.specs.Image.{Image, pixel_size, source_row_size, chroma_size, chroma_rows, frame_image, luma_at, cb_at, cr_at}
use Rattle.yuv_error.specs.Lent.{lengths_of, opening_rules}
use Rattle.sharp_rgba_to_yuv.specs.FrameCall.{FrameCall, rules_of as frame_rules, image_of, FramePost, Unwritten}
use Rattle.band_calls.specs.declared.FrameAnswer.{FrameAnswer}
use Rattle.band_calls.specs.BandCall.{OpenPost, BandCall, rules_of as band_rules, BandPost, Untouched}
use Rattle.band_lists.specs.BandLists.{OthersEqual, Fresh, AllMet, Tally, no_rows, tally_of, Accepted, none, call, first_call, last_call, Chained, After}
use Rattle.band_lists.specs.BandLists as calls
use Rattle.frame_request.specs.Request.{frame_of, source_stride, request_rules, luma_size, output_size, answer_at, response_numbers, RequestPost}
use Rattle.frame_request.specs.Reply.{first_bytes, refusal_line, reply as reply_to, Begins}
use Rattle.frame_calls.specs.Calls.{ExportedFrame, rules_of_frame, FrameKept}
use Rattle.frame_calls.specs.Calls.{ExportedOpening, frame_of_opening, rules_of_opening, OpenKept}
use Rattle.frame_calls.specs.Calls.{ExportedBand, rules_of_band, Kept, BandKept}
use Rattle.frame_calls.specs.Lists.{numbers_told, done_told, opened_state, as_frame, as_bands, AllKept, RefusedKept}
use Rattle.frame_calls.specs.Counts.{ExportedCounts, range_of_counts, matrix_of_counts, rules_of_counts, CountsKept}
use Rattle.colour_counts.specs.Counts.{colours, count_of, sum_below, CountsPost, Total, EveryColour, ByRangeAndMatrix}
use Rattle.counts_request.specs.Reply.{range_of, matrix_of, malformed, lines, reply as counts_reply}
use Rattle.exact_weights.specs.Near.{MatrixNear}
use Rattle.grey.specs.Grey.{grey_of, GreyRows, LumaOfGrey, GreyPlanes}
use Rattle.little_endian.specs.Number.{Bytes}
use Rattle.shift_file.specs.declared.ShiftForm.{ShiftForm}
use Rattle.shift_file.specs.declared.ShiftForm.TheVariants.{WithoutSettings, WithSettings}
use Rattle.setting_codes.specs.Codes.{sampling_code, range_code, matrix_code, transfer_code}
use Rattle.shift_file.specs.File.{ShiftRecord, Allowed, codes_allowed, sampling_of, records_at, bytes_of, HasFile, IsFileOf}
use Rattle.shift_file.specs.Check.{form_in}
use Rattle.shift_file.specs.Means.{SomeList, OneList, ReadBack, Rewritten, OneForm, FormOfFile, SomeForm}
use Rattle.shift_reader.specs.declared.ShiftReading.{ShiftReading}
use Rattle.shift_reader.specs.declared.EntryKind.{EntryKind}
use Rattle.shift_reader.specs.declared.EntryKind.TheVariants.{PlacesAndSettings}
use Rattle.shift_reader.specs.Entry.{nth, offset_of, entry_size, entries_of}
use Rattle.shift_reader.specs.Reading.{read_outcome, reading_of, file_rules, ReadPost}
use Rattle.shift_writer.specs.declared.NotWritten.{NotWritten}
use Rattle.shift_writer.specs.Output.{outcome_of, size_of}
use Rattle.shift_writer.specs.Records.{BackToBack}
use Rattle.shift_writer.specs.Writing.{write_rules, WritePost}
use Rattle.shift_record.specs.declared.RecordFrame.{RecordFrame}
use Rattle.shift_record.specs.Record.{record_form, settings_of, frame_sampling, record_made, record_size, record_rules, RecordPost}
use Rattle.shift_move.specs.Move.{other_form, may_move, moved, moved_file}
use Rattle.shift_move.specs.Moving.{move_rules, MovePost}
use Rattle.shift_move.specs.Means.{MovedIsFile, MayReturn, ThereAndBack}
use Rattle.shift_calls.specs.Shift.{ExportedReading, rules_of_reading, ReadingKept, rules_of_reading_any, ReadingAnyKept}
use Rattle.shift_calls.specs.Shift.{ExportedWriting, rules_of_writing, WritingKept}
use Rattle.shift_calls.specs.Shift.{ExportedRecord, rules_of_record, RecordKept}
use Rattle.shift_calls.specs.Shift.{ExportedMove, rules_of_move, MoveKept}
use Rattle.shift_summary.specs.Summary.{IsSummary, OneSummary}
use Rattle.summary_calls.specs.Found.{IsFirst}
use Rattle.summary_calls.specs.Calls.{build_rules, BuildPost, outcome, says_yes, CheckPost, find_rules, found_in, FindPost}
use Rattle.summary_update.specs.Update.{update_rules, UpdatePost}
use Rattle.summary_update.specs.Summaries.{Left}
use Rattle.shift_calls.specs.Summary.{ExportedBuild, rules_of_build, BuildKept, ExportedCheck, rules_of_check, CheckKept}
use Rattle.shift_calls.specs.Summary.{ExportedFind, rules_of_find, FindKept, ExportedUpdate, rules_of_update, UpdateKept}
use Rattle.record_difference.specs.Record.{SameIsEqual, PlaceIsFirst, SizesAreTold}
use Rattle.shift_pairs.specs.declared.PairReport.{PairReport}
use Rattle.shift_pairs.specs.declared.BrokenFile.{BrokenFile}
use Rattle.shift_pairs.specs.declared.BrokenFile.TheVariants.{Ours, Theirs}
use Rattle.shift_pairs.specs.Report.{report_of}
use Rattle.shift_pairs.specs.Means.{OneOrNone, CountsAddUp, FirstOrNone}
use Rattle.shift_pairs.specs.Pairing.{pairing_rules, pairing_outcome, PairingPost}
use Rattle.report_numbers.specs.Numbers.{report_numbers}
use Rattle.shift_calls.specs.Pairs.{ExportedPairing, rules_of_pairing, PairingKept}
use Rattle.yuv_support.specs.Sampling.{chroma_width}
use Rattle.y4m_file.specs.File.{Y4mPicture, Y4mFile, EachAllowed, luma_bytes, chroma_bytes, picture_bytes, IsFileOf as IsY4mOf}
use Rattle.y4m_file.specs.Means.{SomeFile, OneFile, ReadBack as Y4mReadBack, Rewritten as Y4mRewritten}
use Rattle.y4m_reader.specs.declared.Y4mReading.{Y4mReading}
use Rattle.y4m_reader.specs.Entry.{picture_of, entry_of, offset_of as y4m_offset}
use Rattle.y4m_reader.specs.Reading.{y4m_outcome, y4m_reading_of, file_rules as y4m_file_rules, ReadPost as Y4mReadPost}
use Rattle.y4m_writer.specs.Pictures.{sampling_of as y4m_sampling, file_made as y4m_made, planes_of}
use Rattle.y4m_writer.specs.Writing.{in_word, write_rules as y4m_write_rules, WritePost as Y4mWritePost}
use Rattle.y4m_picture.specs.declared.PictureFrame.{PictureFrame}
use Rattle.y4m_picture.specs.Picture.{chroma_rows as picture_rows, picture_made, picture_rules, PicturePost}
use Rattle.y4m_picture.specs.Means.{planes_made}
use Rattle.y4m_calls.specs.Calls.{ExportedY4mReading, rules_of_y4m_reading, Y4mReadingKept}
use Rattle.y4m_calls.specs.Calls.{ExportedY4mWriting, width_given, height_given, sampling_given, rules_of_y4m_writing, Y4mWritingKept}
use Rattle.y4m_calls.specs.Calls.{ExportedY4mPicture, frame_of_picture, rules_of_y4m_picture, Y4mPictureKept}
use Rattle.frame_calls.specs.Lists.{answer_told}
use Rattle.buffer_parts.specs.Parts.{part_of, TestsAreExact}
use Rattle.convoy_parts.specs.Parts.{frame_at, Broken, BrokenIsExact}
use Rattle.convoy.specs.Run.{planes_of as three_planes, parts_of, Run, ConvoyCall, ConvoyPost}
use Rattle.convoy.specs.Turn.{turn_rules, convoy_rules}
use Rattle.convoy.specs.Alone.{Unwritten as ConvoyUnwritten, AsAlone, OneOutcome}
use Rattle.convoy_calls.specs.Numbers.{numbers_at, custom_at, frame_of as convoy_frame, convoy_of}
use Rattle.convoy_calls.specs.Calls.{ExportedConvoy, convoy_with, ConvoyKept}
use Rattle.desk_places.specs.declared.Turn.{Turn}
use Rattle.desk_places.specs.Places.{next_waiting}
use Rattle.desk_places.specs.Means.{TestsAreExact as DeskTestsAreExact, TurnIsExact}
use Rattle.desk_bands.specs.Buffers.{Buffers, serve_rules}
use Rattle.desk.specs.DeskCall.{OpenCall, open_rules as desk_open_rules, OpenPost as DeskOpenPost, OfferCall, offer_rules, OfferPost, StepCall, StepPost}
use Rattle.desk.specs.Told.{StepsAreRight}
use Rattle.desk_calls.specs.Calls.{ExportedDeskOpen, rules_of_desk_open, DeskOpenKept, ExportedDeskOffer, DeskOfferKept}
use Rattle.desk_calls.specs.Calls.{ExportedDeskStep, served_numbers, DeskStepKept}
use Rattle.desk_lists.specs.DeskLists.{Fairness}
use Rattle.desk_lists.specs.Isolation.{Isolation, PlanesOfOwnBands}
use Rattle.desk_lists.specs.FromNumbers.{as_offering, as_step, NumbersAreCalls, NumberedFairness, NumberedPlanes}

-- ---- 1. Every call answers finished work or one numbered refusal, for all sizes, strides, buffers and settings; a refusal writes no byte.

-- RULES 7.1, 7.2: the answer, in its three numbers, is the first number, in the order of the refusals (yuv_error's Order.antt), whose condition holds,
-- with that number's expected and received, or 0, finished work, where none holds; and where it is a refusal, nothing changed
pub record Answered (rules : List Rule) (told : Numbers) (unchanged : Type 0) : Type 0 where
  pub lowest : Lowest rules told
  pub writes_nothing : 1 ≤ told.number → unchanged

-- RULES 9.3: the bytes that answer a request, by the three numbers that are the right answer to its rules
abbrev pub Replied : (input bytes : List ℕ) → Type 0
Replied input bytes =
    (x : Numbers) → Lowest (request_rules input) x
    → (x.number ≡ 0 → bytes ≡ first_bytes (answer_at input) (output_size (frame_of input))) × (1 ≤ x.number → bytes ≡ refusal_line x.number)

-- RULES 9.4: and those that answer a request of the program `luma_counts`
abbrev pub CountsReplied : (input bytes : List ℕ) → Type 0
CountsReplied input bytes =
    (x : Numbers) → Lowest (rule 1 (malformed input) 0 0 ∷ []) x
    → (x.number ≡ 0 → bytes ≡ lines (count_of (range_of input) (matrix_of input)) 256) × (1 ≤ x.number → bytes ≡ refusal_line x.number)

-- RULES 10.9: a convoy that came as numbers, with the answer and the place that were told
abbrev pub as_convoy : ExportedConvoy → ConvoyCall
as_convoy k = convoy_with k (record { answer = answer_told k.number k.told; done = done_told k.told })

-- RULES 16.4: the rules of a step are those of the band whose turn it is, and none where no band waits
abbrev pub turn_rules_of : Option Turn → (lent : Buffers) → List Rule
turn_rules_of None lent = []
turn_rules_of (Some t) lent = serve_rules t.frame t.band lent

-- RULES 16.4
abbrev pub step_rules : StepCall → List Rule
step_rules k = turn_rules_of (next_waiting k.desk.places k.desk.from) k.lent

-- RULES 7.1, 7.2: of the calls of Rattle, which are frame, opening, band, a count of colours, reading and writing a shift file, one record of it,
-- moving a file to its other form, building, checking, asking and updating its summary, pairing two files, reading and writing a Y4M file, one
-- picture of it, a convoy of frames, an opening, an offer and a step at the desk, and a request of the program; then of those that C and Rust link,
-- whose numbers come first to be refused
pub record Demand1 : Type 0 where
  pub frame : (k : FrameCall) → FramePost k → Answered (frame_rules k) (numbers_of k.answer) (Unwritten k)
  pub opening : (d : FrameDescription) (r : FrameAnswer) → OpenPost d r → Lowest (opening_rules d) (numbers_of r.answer)
  pub band : (k : BandCall) → BandPost k → Answered (band_rules k) (numbers_of k.result.answer) (Untouched k)
  pub counts : (range : YuvRange) (matrix : YuvStandardMatrix) (before : List ℕ) (a : Result Unit YuvError) (after : List ℕ) → CountsPost range matrix before a after
      → Answered (matrix_rules matrix) (numbers_of a) (after ≡ before)
  pub shift_reading : (kind : EntryKind) (form : ShiftForm) (file : List ℕ) (first : ℕ) (before : List ℕ) (r : Result ShiftReading YuvError) (after : List ℕ)
      → ReadPost kind form file first before r after → Answered (file_rules form file) (numbers_of (read_outcome r)) (after ≡ before)
  pub shift_writing : (form : ShiftForm) (records before : List ℕ) (r : Result ℕ NotWritten) (after : List ℕ) → WritePost form records before r after
      → Answered (write_rules form records (length before)) (numbers_of (outcome_of r)) (after ≡ before)
  pub shift_record : (f : RecordFrame) (y u v before : List ℕ) (r : Result ℕ NotWritten) (after : List ℕ) → RecordPost f y u v before r after
      → Answered (record_rules f y u v (length before)) (numbers_of (outcome_of r)) (after ≡ before)
  pub shift_moving : (from : ShiftForm) (file before : List ℕ) (r : Result ℕ NotWritten) (after : List ℕ) → MovePost from file before r after
      → Answered (move_rules from file (length before)) (numbers_of (outcome_of r)) (after ≡ before)
  pub summary_build : (form : ShiftForm) (file before : List ℕ) (a : Result Unit YuvError) (after : List ℕ) → BuildPost form file before a after
      → Answered (build_rules form file (length before)) (numbers_of a) (after ≡ before)
  -- these two are lent nothing to write in: refused, the one says no and the other finds nothing
  pub summary_check : (form : ShiftForm) (file summary : List ℕ) (r : Result Bool YuvError) → CheckPost form file summary r
      → Lowest (file_rules form file) (numbers_of (outcome r)) × (1 ≤ (numbers_of (outcome r)).number → says_yes r ≡ false)
  pub summary_find : (form : ShiftForm) (file summary : List ℕ) (crossing : ℕ) (r : Result (Option ℕ) YuvError) → FindPost form file summary crossing r
      → Lowest (find_rules form file summary) (numbers_of (outcome r)) × (1 ≤ (numbers_of (outcome r)).number → found_in r ≡ None)
  pub summary_update : (form : ShiftForm) (file added before : List ℕ) (a : Result Unit YuvError) (after : List ℕ) → UpdatePost form file added before a after
      → Answered (update_rules form file added before) (numbers_of a) (after ≡ before)
  pub shift_pairing : (our_form : ShiftForm) (ours : List ℕ) (their_form : ShiftForm) (theirs : List ℕ) (r : Result PairReport BrokenFile)
      → PairingPost our_form ours their_form theirs r → Lowest (pairing_rules our_form ours their_form theirs) (numbers_of (pairing_outcome r))
  pub y4m_reading : (file : List ℕ) (first : ℕ) (before : List ℕ) (r : Result Y4mReading YuvError) (after : List ℕ) → Y4mReadPost file first before r after
      → Answered (y4m_file_rules file) (numbers_of (y4m_outcome r)) (after ≡ before)
  pub y4m_writing : (code w h : ℕ) (pictures before : List ℕ) (r : Result ℕ NotWritten) (after : List ℕ) → Y4mWritePost code w h pictures before r after
      → Answered (y4m_write_rules code w h pictures (length before)) (numbers_of (outcome_of r)) (after ≡ before)
  pub y4m_picture : (f : PictureFrame) (y u v before : List ℕ) (r : Result ℕ NotWritten) (after : List ℕ) → PicturePost f y u v before r after
      → Answered (picture_rules f y u v (length before)) (numbers_of (outcome_of r)) (after ≡ before)
  -- a convoy that is refused keeps the bytes of the refused frame and of later ones, and every other byte but those of finished frames; its rules are
  -- those of the frame at the place that is told, which `Convoys` says is the first that is refused
  pub convoy : (k : ConvoyCall) → ConvoyPost k → Answered (convoy_rules k) (numbers_of k.result.answer) (ConvoyUnwritten k)
  -- a refused opening or offer hands the desk back as it was; a step writes no byte where its band is refused, and uses the band up
  pub desk_opening : (k : OpenCall) → DeskOpenPost k → Answered (desk_open_rules k) (numbers_of k.result.answer) (k.result.desk ≡ k.desk)
  pub desk_offer : (k : OfferCall) → OfferPost k → Answered (offer_rules k) (numbers_of k.result.answer) (k.result.desk ≡ k.desk)
  pub desk_step : (k : StepCall) → StepPost k → Answered (step_rules k) (served_numbers k.result.served) (k.left ≡ k.lent)
  pub request : (input output : List ℕ) (response : Result ℕ YuvError) (output' : List ℕ) → RequestPost input output response output'
      → Answered (request_rules input) (response_numbers response) (output' ≡ output)
  -- and what the program writes for it: the planes where no condition holds, or the line of the first number whose condition holds
  pub reply : (input output : List ℕ) (n : ℕ) (output' : List ℕ) → Begins (reply_to input) output n output' → Replied input (take n output')
  pub counts_reply_lem : (input output : List ℕ) (n : ℕ) (output' : List ℕ) → Begins (counts_reply input) output n output' → CountsReplied input (take n output')
  pub linked_frame : (k : ExportedFrame) → FrameKept k → Answered (rules_of_frame k) (numbers_told k.number k.told) (Unwritten (as_frame k))
  pub linked_opening : (k : ExportedOpening) → OpenKept k → Lowest (rules_of_opening k) (numbers_told k.number k.told) × (done_told k.told ≡ 0)
  pub linked_band : (k : ExportedBand) → BandKept k
      → Answered (rules_of_band k) (numbers_told k.number k.told) (Kept k (done_told k.told))
  pub linked_counts : (k : ExportedCounts) → CountsKept k → Answered (rules_of_counts k) (numbers_told k.number k.told) (k.counts' ≡ k.counts)
  -- 15, 16, 17, 19 and 20 come without expected and received, so the number alone tells the answer of these, of the summary's four, of the pairing,
  -- and of the three of Y4M
  pub linked_shift_reading : (k : ExportedReading) → ReadingKept k → Answered (rules_of_reading k) (numbers k.number 0 0) (k.entries' ≡ k.entries)
  pub linked_shift_reading_any : (k : ExportedReading) → ReadingAnyKept k
      → Answered (rules_of_reading_any k) (numbers k.number 0 0) (k.entries' ≡ k.entries)
  pub linked_shift_writing : (form : ShiftForm) (k : ExportedWriting) → WritingKept form k
      → Answered (rules_of_writing form k) (numbers k.number 0 0) (k.file' ≡ k.file)
  pub linked_shift_moving : (from : ShiftForm) (k : ExportedMove) → MoveKept from k
      → Answered (rules_of_move from k) (numbers k.number 0 0) (k.output' ≡ k.output)
  pub linked_shift_pairing : (k : ExportedPairing) → PairingKept k → Answered (rules_of_pairing k) (numbers k.number 0 0) (k.report' ≡ k.report)
  pub linked_shift_record : (form : ShiftForm) (k : ExportedRecord) → RecordKept form k
      → Answered (rules_of_record form k) (numbers_told k.number k.told) (k.output' ≡ k.output)
  pub linked_summary_build : (k : ExportedBuild) → BuildKept k → Answered (rules_of_build k) (numbers k.number 0 0) (k.summary' ≡ k.summary)
  pub linked_summary_check : (k : ExportedCheck) → CheckKept k
      → Lowest (rules_of_check k) (numbers k.number 0 0) × (1 ≤ k.number → k.told ≡ 0 ∷ [])
  pub linked_summary_find : (k : ExportedFind) → FindKept k
      → Lowest (rules_of_find k) (numbers k.number 0 0) × (1 ≤ k.number → k.told ≡ 0 ∷ 0 ∷ [])
  pub linked_summary_update : (k : ExportedUpdate) → UpdateKept k → Answered (rules_of_update k) (numbers k.number 0 0) (k.summary' ≡ k.summary)
  pub linked_y4m_reading : (k : ExportedY4mReading) → Y4mReadingKept k
      → Answered (rules_of_y4m_reading k) (numbers k.number 0 0) ((k.entries' ≡ k.entries) × (k.told ≡ 0 ∷ 0 ∷ 0 ∷ 0 ∷ 0 ∷ []))
  pub linked_y4m_writing : (k : ExportedY4mWriting) → Y4mWritingKept k
      → Answered (rules_of_y4m_writing k) (numbers k.number 0 0) (k.output' ≡ k.output)
  pub linked_y4m_picture : (k : ExportedY4mPicture) → Y4mPictureKept k
      → Answered (rules_of_y4m_picture k) (numbers k.number 0 0) (k.output' ≡ k.output)
  pub linked_convoy : (k : ExportedConvoy) → ConvoyKept k
      → Answered (convoy_rules (as_convoy k)) (numbers_told k.number k.told) (ConvoyUnwritten (as_convoy k))
  pub linked_desk_opening : (k : ExportedDeskOpen) → DeskOpenKept k
      → Answered (rules_of_desk_open k) (numbers_told k.number k.told) (k.after ≡ k.before)
  -- 21, 22 and 18 come without expected and received
  pub linked_desk_offer : (k : ExportedDeskOffer) → DeskOfferKept k → Answered (offer_rules (as_offering k)) (numbers k.number 0 0) (k.after ≡ k.before)
  pub linked_desk_step : (k : ExportedDeskStep) → DeskStepKept k → Answered (step_rules (as_step k)) (numbers_told k.number k.told) (k.left ≡ k.lent)

-- ---- 2. Frames of 1 to 16,384 pixels a side, anywhere in a source of at most 16,384 a side in whole rows, with any channel order, sampling, range,
-- transfer, rounding and accepted matrix: every byte of the planes is the one that the rules name, which is that of the Rust over our stated curve
-- tables; each table entry is the curve's, by the rounding; and padding is untouched.

-- RULES 7.5, 7.6, 7.7: so many whole rows of n bytes
pub record WholeRows (n rows stride : ℕ) (buffer : List ℕ) : Type 0 where
  pub row : n ≤ stride
  pub size : length buffer ≡ stride * rows

-- RULES 7.3, 7.4, 7.5, 7.6, 7.7, 7.9: such a frame, with its planes
pub record WholeFrame (k : FrameCall) : Type 0 where
  pub width_least : 1 ≤ k.frame.width
  pub width_most : k.frame.width ≤ 16384
  pub height_least : 1 ≤ k.frame.height
  pub height_most : k.frame.height ≤ 16384
  pub source_width_most : k.frame.window.source_width ≤ 16384
  pub source_height_most : k.frame.window.source_height ≤ 16384
  pub matrix : accepted k.frame.settings.matrix ≡ true
  pub right : k.frame.window.left + k.frame.width ≤ k.frame.window.source_width
  pub bottom : k.frame.window.top + k.frame.height ≤ k.frame.window.source_height
  pub source_rows : WholeRows (source_row_size k.frame) k.frame.window.source_height k.stride k.source
  pub y_rows : WholeRows k.frame.width k.frame.height k.frame.y_stride k.y
  pub u_rows : WholeRows (chroma_size k.frame) (chroma_rows k.frame) k.frame.u_stride k.u
  pub v_rows : WholeRows (chroma_size k.frame) (chroma_rows k.frame) k.frame.v_stride k.v

-- RULES 2.4, 2.5: every byte of the planes; those of the rows by the definition, which the Rust over these tables is run against, the others as they
-- were
pub record FrameBytes (k : FrameCall) : Type 0 where
  pub luma : (r x : ℕ) → r < k.frame.height → x < k.frame.width → get_or k.y' (r * k.frame.y_stride + x) 0 ≡ luma_at k.frame (image_of k) r x
  pub cb : (r x : ℕ) → r < chroma_rows k.frame → x < chroma_size k.frame → get_or k.u' (r * k.frame.u_stride + x) 0 ≡ cb_at k.frame (image_of k) r x
  pub cr : (r x : ℕ) → r < chroma_rows k.frame → x < chroma_size k.frame → get_or k.v' (r * k.frame.v_stride + x) 0 ≡ cr_at k.frame (image_of k) r x
  pub y_padding : OthersEqual k.frame.height k.frame.width k.frame.y_stride k.y' k.y
  pub u_padding : OthersEqual (chroma_rows k.frame) (chroma_size k.frame) k.frame.u_stride k.u' k.u
  pub v_padding : OthersEqual (chroma_rows k.frame) (chroma_size k.frame) k.frame.v_stride k.v' k.v

-- RULES 2.4, 2.5, 3.4, 3.5, 7.8
pub record Demand2 : Type 0 where
  -- every such frame is answered with finished work, and no other is
  pub finished : (k : FrameCall) → FramePost k → (k.answer ≡ Ok tt) ↔ WholeFrame k
  pub planes : (k : FrameCall) → FramePost k → WholeFrame k → FrameBytes k
  pub linear : (t : SharpYuvGammaTransfer) (r : TableRounding) (v n : ℕ) → v < 256
      → T (under_curve (curve_of t) (place r 65535 n) (v over 255)) ↔ n ≤ linear_entry t r v
  pub gamma : (t : SharpYuvGammaTransfer) (r : TableRounding) (i k : ℕ) → i < 65536
      → T (under_inverse (curve_of t) (place r 255 k) (i over 65535)) ↔ k ≤ gamma_entry t r i

-- ---- 3. For every list of band calls after a fresh opening, refused calls included, whatever their bands and buffers, the finished rows are those of
-- one frame call. The whole claim stands, part by part, in band_lists' specs/BandLists.antt.

-- RULES 8.9, 10.3
pub record Demand3 : Type 0 where
  pub calls : calls.Demand3
  -- the same for who links the library: an opening that was answered with 0, and a list of band calls, those refused with 1 included
  pub linked : (o : ExportedOpening) (bands : List ExportedBand) → OpenKept o → o.number ≡ 0 → AllKept bands
      → Chained (opened_state o) none (as_bands bands)
      → After (frame_of_opening o) (opened_state o) (tally_of (frame_of_opening o) no_rows (as_bands bands)) (first_call (as_bands bands)) (last_call none (as_bands bands))
      × RefusedKept bands
  -- and their accepted frame calls are among the frame calls that it speaks of
  pub linked_frames : (k : ExportedFrame) → FrameKept k → k.number ≡ 0
      → ((as_frame k).answer ≡ Ok tt) × FramePost (as_frame k)

-- ---- Grey stays grey: where R = G = B in each pixel of the rectangle, every finished chroma byte is 128, and in full range each finished luma byte is
-- that pixel's grey; in limited range that of black is 16 and that of white 235. For every accepted call, window, transfer, rounding and matrix.

-- RULES 6.5: the image of the rows of a tally, which are those of the rectangle
abbrev pub tally_image : FrameDescription → Tally → Image
tally_image d t r = pixels_of (pixel_size d) (get_or t.rows r [])

-- RULES 6.5: the planes as the last accepted band call left them; no claim where none was accepted
abbrev pub GreyAfter : FrameDescription → Tally → Accepted → Type 0
GreyAfter d t none = Unit {0}
GreyAfter d t (call j) = GreyPlanes d t.n (tally_image d t) j.y' j.u' j.v'

-- RULES 6.5
abbrev pub GreyBands : FrameDescription → List BandCall → Type 0
GreyBands d calls = let t = tally_of d no_rows calls in GreyRows d t.n (tally_image d t) → GreyAfter d t (last_call none calls)

-- RULES 6.5
abbrev pub GreyFrame : FrameCall → Type 0
GreyFrame k = GreyRows k.frame k.frame.height (image_of k) → GreyPlanes k.frame k.frame.height (image_of k) k.y' k.u' k.v'

-- RULES 6.5: the bytes that answer a request of the program, luma first
abbrev pub GreyAnswer : (d : FrameDescription) → Image → (answer : ℕ → ℕ) → Type 0
GreyAnswer d image answer =
    ((r x : ℕ) → r < d.height → x < d.width → LumaOfGrey d.settings.range (grey_of d.settings (image r x)) (answer (r * d.width + x)))
    × ((p : ℕ) → luma_size d ≤ p → p < output_size d → answer p ≡ 128)

-- RULES 6.5
pub record Grey : Type 0 where
  pub frames : (k : FrameCall) → FramePost k → k.answer ≡ Ok tt → GreyFrame k
  -- every list of band calls, under demand 3's proviso
  pub bands : (d : FrameDescription) (opening : FrameAnswer) (calls : List BandCall)
      → Fresh d opening → AllMet calls → Chained opening.state none calls → GreyBands d calls
  -- the same for who links the library
  pub linked_frames : (k : ExportedFrame) → FrameKept k → k.number ≡ 0 → GreyFrame (as_frame k)
  pub linked_bands : (o : ExportedOpening) (bands : List ExportedBand) → OpenKept o → o.number ≡ 0 → AllKept bands
      → Chained (opened_state o) none (as_bands bands) → GreyBands (frame_of_opening o) (as_bands bands)
  -- black and white in one frame of limited range, in every accepted matrix
  pub black_and_white : (k : FrameCall) → FramePost k → k.answer ≡ Ok tt → k.frame.settings.range ≡ Limited
      → GreyRows k.frame k.frame.height (image_of k) → (r x : ℕ) → r < k.frame.height → x < k.frame.width
      → let v = grey_of k.frame.settings (image_of k r x) in let luma = get_or k.y' (r * k.frame.y_stride + x) 0 in
      (v ≡ 0 → luma ≡ 16) × (v ≡ 255 → luma ≡ 235)
  -- and for the program, by the bytes that demand 1 says it writes
  pub requests : (input : List ℕ) → Lowest (request_rules input) (numbers 0 0 0) → let d = frame_of input in
      let image = frame_image d (source_stride d) (drop 9 input) in
      GreyRows d d.height image → GreyAnswer d image (answer_at input)
  -- what it rests on: how near the nine weights, and the sum of each triple, are to exact ones, for every accepted matrix and every Custom pair
  pub weights : MatrixNear

-- ---- How many colours share a luma: the 256 counts are those of the luma rule, over all 16,777,216 colours, each counted once, and they add to that
-- number. For every accepted matrix and range.

-- RULES 5.3
abbrev pub EachCounted : YuvRange → YuvStandardMatrix → (counts : List ℕ) → Type 0
EachCounted range matrix counts = (y : ℕ) → y < 256 → get_or counts y 0 ≡ count_of range matrix y

-- RULES 5.3, 10.4
pub record Counts : Type 0 where
  pub counted : (range : YuvRange) (matrix : YuvStandardMatrix) (before : List ℕ) (a : Result Unit YuvError) (after : List ℕ) → CountsPost range matrix before a after
      → a ≡ Ok tt → EachCounted range matrix after
  pub add_up : (range : YuvRange) (matrix : YuvStandardMatrix) (before : List ℕ) (a : Result Unit YuvError) (after : List ℕ) → CountsPost range matrix before a after
      → a ≡ Ok tt → sum_below (λ y. get_or after y 0) 256 ≡ colours
  pub linked : (k : ExportedCounts) → CountsKept k → k.number ≡ 0 → EachCounted (range_of_counts k) (matrix_of_counts k) k.counts'
  pub total : Total
  pub every_colour : EveryColour
  pub by_range_and_matrix : ByRangeAndMatrix

-- ---- The shift file: a file has one list of records, 15 is answered exactly where there is none, records written read back the same, a file read and
-- rewritten is the same bytes, and a record made of the planes of a frame call is these planes without padding. In both forms.

-- RULES 11.3: no list of records has these bytes
abbrev pub NoFile : ShiftForm → (file : List ℕ) → Type 0
NoFile form file = (rs : List ShiftRecord) → IsFileOf form file rs → ⊥

-- RULES 11.5: no list of records that has a file has these bytes back to back
abbrev pub NoRecords : ShiftForm → (records : List ℕ) → Type 0
NoRecords form records = (rs : List ShiftRecord) → BackToBack form records rs → ⊥

-- RULES 11.6: the frame of a call, with the strides of its planes, as that of a record: of 4:2:0, or RULES 11.7: with its sampling recorded
pub record OfFrame (k : FrameCall) (f : RecordFrame) : Type 0 where
  pub sampling : k.frame.settings.sampling ≡ frame_sampling f
  pub codes : codes_allowed (record_form f) (settings_of f) ≡ true
  pub width : f.width ≡ k.frame.width
  pub height : f.height ≡ k.frame.height
  pub y_stride : f.y_stride ≡ k.frame.y_stride
  pub u_stride : f.u_stride ≡ k.frame.u_stride
  pub v_stride : f.v_stride ≡ k.frame.v_stride

-- RULES 1.2, 11.7: the settings of a frame as a record has them: of a Custom matrix that it is one, and nothing of the rounding
abbrev pub codes_of : YuvSettings → List ℕ
codes_of s = sampling_code s.sampling ∷ range_code s.range ∷ matrix_code s.matrix ∷ transfer_code s.transfer ∷ []

-- RULES 2.5, 11.6: planes without padding whose every byte is the one that the rules name
pub record PlaneBytes (k : FrameCall) (y u v : List ℕ) : Type 0 where
  pub y_size : length y ≡ k.frame.width * k.frame.height
  pub u_size : length u ≡ chroma_size k.frame * chroma_rows k.frame
  pub v_size : length v ≡ chroma_size k.frame * chroma_rows k.frame
  pub luma : (i x : ℕ) → i < k.frame.height → x < k.frame.width → get_or y (i * k.frame.width + x) 0 ≡ luma_at k.frame (image_of k) i x
  pub cb : (i x : ℕ) → i < chroma_rows k.frame → x < chroma_size k.frame
      → get_or u (i * chroma_size k.frame + x) 0 ≡ cb_at k.frame (image_of k) i x
  pub cr : (i x : ℕ) → i < chroma_rows k.frame → x < chroma_size k.frame
      → get_or v (i * chroma_size k.frame + x) 0 ≡ cr_at k.frame (image_of k) i x

-- RULES 11.6
abbrev pub RecordBytes : FrameCall → ShiftRecord → Type 0
RecordBytes k r = PlaneBytes k r.y r.u r.v

-- RULES 11.3, 11.4, 11.5, 11.6, 11.7
pub record ShiftFiles : Type 0 where
  -- of the definitions
  pub some_list : SomeList
  pub one_list : OneList
  pub read_back : ReadBack
  pub rewritten : Rewritten
  pub one_form : OneForm
  pub form_of_file : FormOfFile
  pub some_form : SomeForm
  -- so bytes that are no file of the form that they tell are no file
  pub either_form : (file : List ℕ) → NoFile (form_in file) file → (form : ShiftForm) → NoFile form file
  -- of the calls: 15, and otherwise the records
  pub refused : (kind : EntryKind) (form : ShiftForm) (file : List ℕ) (first : ℕ) (before : List ℕ) (r : Result ShiftReading YuvError) (after : List ℕ) → Bytes file
      → ReadPost kind form file first before r after → ((numbers_of (read_outcome r)).number ≡ 15) ↔ NoFile form file
  pub read : (kind : EntryKind) (form : ShiftForm) (file : List ℕ) (first : ℕ) (before : List ℕ) (r : Result ShiftReading YuvError) (after : List ℕ) (rs : List ShiftRecord)
      → IsFileOf form file rs → ReadPost kind form file first before r after
      → ((reading_of r).count ≡ length rs) × (after ≡ entries_of kind form rs first (reading_of r).told ++ drop (entry_size kind * (reading_of r).told) before)
  -- for who links the library: the reader of either form reads in the one that the file has
  pub linked_reading : (k : ExportedReading) (p : ReadingAnyKept k) (form : ShiftForm) (rs : List ShiftRecord) → IsFileOf form k.file rs
      → ReadPost PlacesAndSettings form k.file k.first k.entries p.reading k.entries'
  pub write_refused : (form : ShiftForm) (records before : List ℕ) (r : Result ℕ NotWritten) (after : List ℕ) → Bytes records
      → WritePost form records before r after → ((numbers_of (outcome_of r)).number ≡ 15) ↔ NoRecords form records
  pub written : (form : ShiftForm) (records before : List ℕ) (r : Result ℕ NotWritten) (after : List ℕ) (rs : List ShiftRecord)
      → BackToBack form records rs → WritePost form records before r after → outcome_of r ≡ Ok tt
      → IsFileOf form (take (size_of r) after) rs × (drop (size_of r) after ≡ drop (size_of r) before)
  -- what follows a file's pairs, written, is the file
  pub written_again : (form : ShiftForm) (file before : List ℕ) (r : Result ℕ NotWritten) (after : List ℕ) (rs : List ShiftRecord)
      → IsFileOf form file rs → WritePost form (drop (records_at form (length rs)) file) before r after → outcome_of r ≡ Ok tt → take (size_of r) after ≡ file
  -- a record from planes, which has its place in a file
  pub made : (f : RecordFrame) (y u v before : List ℕ) (r : Result ℕ NotWritten) (after : List ℕ) → Bytes y → Bytes u → Bytes v → f.crossing < 4294967296
      → RecordPost f y u v before r after → outcome_of r ≡ Ok tt
      → Allowed (record_form f) (record_made f y u v) × (take (size_of r) after ≡ bytes_of (record_made f y u v))
  -- of the planes of a frame: it is made wherever it has room, and its planes are the frame's without padding
  pub frame_accepted : (k : FrameCall) (f : RecordFrame) (before : List ℕ) (r : Result ℕ NotWritten) (after : List ℕ) → FramePost k → k.answer ≡ Ok tt
      → OfFrame k f → RecordPost f k.y' k.u' k.v' before r after → record_size f ≤ length before → outcome_of r ≡ Ok tt
  pub frame : (k : FrameCall) (f : RecordFrame) → FramePost k → k.answer ≡ Ok tt → OfFrame k f → RecordBytes k (record_made f k.y' k.u' k.v')
  -- any settings of a frame may be recorded as they are, and say its sampling
  pub frame_codes : (s : YuvSettings) → (codes_allowed WithSettings (codes_of s) ≡ true) × (sampling_of WithSettings (codes_of s) ≡ s.sampling)

-- ---- A shift file moved to its other form: forward sets 4:2:0 and records nothing else, back drops just that, and there and back it is the same file,
-- byte for byte. 15, 20 and 16 are answered exactly where they are due, and a reader of one form answers 15 to every file of the other.

-- RULES 11.8: 4:2:0, and range, matrix and transfer not recorded
pub record NothingRecorded (r : ShiftRecord) : Type 0 where
  pub sampling : get_or r.settings 0 0 ≡ 0
  pub range : get_or r.settings 1 0 ≡ 255
  pub matrix : get_or r.settings 2 0 ≡ 255
  pub transfer : get_or r.settings 3 0 ≡ 255

-- RULES 11.7, 11.8
pub record ShiftMoves : Type 0 where
  -- of the definitions
  pub moved_is_file : MovedIsFile
  pub may_return : MayReturn
  pub there_and_back : ThereAndBack
  -- of the calls: 15
  pub refused : (from : ShiftForm) (file before : List ℕ) (r : Result ℕ NotWritten) (after : List ℕ) → Bytes file → MovePost from file before r after
      → ((numbers_of (outcome_of r)).number ≡ 15) ↔ NoFile from file
  -- 20, where a record to be moved back has 4:2:2 or a recorded setting; and forward never
  pub recorded : (file before : List ℕ) (r : Result ℕ NotWritten) (after : List ℕ) (rs : List ShiftRecord) → IsFileOf WithSettings file rs
      → MovePost WithSettings file before r after
      → ((numbers_of (outcome_of r)).number ≡ 20) ↔ ((i : ℕ) × (i < length rs) × (NothingRecorded (nth rs i) → ⊥))
  pub none_forward : (file before : List ℕ) (r : Result ℕ NotWritten) (after : List ℕ) → MovePost WithoutSettings file before r after
      → (numbers_of (outcome_of r)).number ≡ 20 → ⊥
  -- 16
  pub short : (from : ShiftForm) (file before : List ℕ) (r : Result ℕ NotWritten) (after : List ℕ) (rs : List ShiftRecord) → IsFileOf from file rs
      → may_move from rs ≡ true → MovePost from file before r after → ((numbers_of (outcome_of r)).number ≡ 16) ↔ (length before < length (moved_file from file))
  -- and otherwise the file of the moved records
  pub moved_there : (from : ShiftForm) (file before : List ℕ) (r : Result ℕ NotWritten) (after : List ℕ) (rs : List ShiftRecord) → IsFileOf from file rs
      → MovePost from file before r after → outcome_of r ≡ Ok tt
      → IsFileOf (other_form from) (take (size_of r) after) (moved (other_form from) rs) × (drop (size_of r) after ≡ drop (size_of r) before)
  -- which moved back, wherever there is room, is the same file
  pub moved_back : (from : ShiftForm) (file before : List ℕ) (r : Result ℕ NotWritten) (after : List ℕ) → Bytes file → MovePost from file before r after
      → outcome_of r ≡ Ok tt → (before₂ : List ℕ) (r₂ : Result ℕ NotWritten) (after₂ : List ℕ) → MovePost (other_form from) (take (size_of r) after) before₂ r₂ after₂
      → length file ≤ length before₂ → (outcome_of r₂ ≡ Ok tt) × (take (size_of r₂) after₂ ≡ file)
  -- a reader of one form answers 15 to a file of the other
  pub other_reader : (kind : EntryKind) (form : ShiftForm) (file : List ℕ) (rs : List ShiftRecord) → IsFileOf form file rs
      → (first : ℕ) (before : List ℕ) (r : Result ShiftReading YuvError) (after : List ℕ) → ReadPost kind (other_form form) file first before r after
      → (numbers_of (read_outcome r)).number ≡ 15

-- ---- The summary of a shift file: a file has one, byte for byte; what is built is the summary, the check says yes exactly where it is there, a lookup finds
-- the first record of a crossing, or none exactly where there is none, and an update leaves the bytes that are built afresh of the grown file, which is the
-- one that the writer makes of the old records and the new one. 15 and 17 are answered exactly where there is no such file, and no such room or summary.
-- In both forms.

-- RULES 12.5: what is lent starts with a summary of these records
abbrev pub HasSummary : ShiftForm → List ShiftRecord → (lent : List ℕ) → Type 0
HasSummary form rs lent = (13 * length rs ≤ length lent) × IsSummary form rs (take (13 * length rs) lent)

-- RULES 12.6: none of these records has the crossing
abbrev pub NoRecordOf : (crossing : ℕ) → List ShiftRecord → Type 0
NoRecordOf crossing rs = (i : ℕ) → i < length rs → (nth rs i).crossing ≡ crossing → ⊥

-- RULES 12.7: the file is that of some records, what is added is one more, and together they have a file
pub record Grows (form : ShiftForm) (file added : List ℕ) (rs : List ShiftRecord) (r : ShiftRecord) : Type 0 where
  pub old : IsFileOf form file rs
  pub new : bytes_of r ≡ added
  pub has : HasFile form (rs ++ r ∷ [])

-- RULES 12.3, 12.4, 12.5, 12.6, 12.7
pub record ShiftSummaries : Type 0 where
  pub one_summary : OneSummary
  -- building
  pub build_refused : (form : ShiftForm) (file before : List ℕ) (a : Result Unit YuvError) (after : List ℕ) → Bytes file → BuildPost form file before a after
      → ((numbers_of a).number ≡ 15) ↔ NoFile form file
  pub build_short : (form : ShiftForm) (file before : List ℕ) (a : Result Unit YuvError) (after : List ℕ) (rs : List ShiftRecord) → IsFileOf form file rs
      → BuildPost form file before a after → ((numbers_of a).number ≡ 17) ↔ (length before < 13 * length rs)
  pub built : (form : ShiftForm) (file before : List ℕ) (a : Result Unit YuvError) (after : List ℕ) (rs : List ShiftRecord) → IsFileOf form file rs
      → BuildPost form file before a after → a ≡ Ok tt → Left form rs (13 * length rs) before after
  -- checking
  pub check_refused : (form : ShiftForm) (file summary : List ℕ) (r : Result Bool YuvError) → Bytes file → CheckPost form file summary r
      → ((numbers_of (outcome r)).number ≡ 15) ↔ NoFile form file
  pub checked : (form : ShiftForm) (file summary : List ℕ) (r : Result Bool YuvError) (rs : List ShiftRecord) → IsFileOf form file rs → Bytes summary
      → CheckPost form file summary r → (r ≡ Ok true) ↔ HasSummary form rs summary
  -- looking up
  pub find_refused : (form : ShiftForm) (file summary : List ℕ) (crossing : ℕ) (r : Result (Option ℕ) YuvError) → Bytes file
      → FindPost form file summary crossing r → ((numbers_of (outcome r)).number ≡ 15) ↔ NoFile form file
  pub find_mismatch : (form : ShiftForm) (file summary : List ℕ) (crossing : ℕ) (r : Result (Option ℕ) YuvError) (rs : List ShiftRecord) → IsFileOf form file rs
      → Bytes summary → FindPost form file summary crossing r → ((numbers_of (outcome r)).number ≡ 17) ↔ (HasSummary form rs summary → ⊥)
  pub found : (form : ShiftForm) (file summary : List ℕ) (crossing : ℕ) (r : Result (Option ℕ) YuvError) (rs : List ShiftRecord) → IsFileOf form file rs
      → FindPost form file summary crossing r → IsOk r → (k : ℕ) → (r ≡ Ok (Some k)) ↔ IsFirst crossing rs k
  -- and it is a part of the file, where the reader tells that it stands
  pub found_part : (form : ShiftForm) (file summary : List ℕ) (crossing : ℕ) (r : Result (Option ℕ) YuvError) (rs : List ShiftRecord) (k : ℕ)
      → IsFileOf form file rs → FindPost form file summary crossing r → r ≡ Ok (Some k)
      → take (length (bytes_of (nth rs k))) (drop (offset_of form rs k) file) ≡ bytes_of (nth rs k)
  pub found_none : (form : ShiftForm) (file summary : List ℕ) (crossing : ℕ) (r : Result (Option ℕ) YuvError) (rs : List ShiftRecord) → IsFileOf form file rs
      → FindPost form file summary crossing r → IsOk r → (r ≡ Ok None) ↔ NoRecordOf crossing rs
  -- updating
  pub update_refused : (form : ShiftForm) (file added before : List ℕ) (a : Result Unit YuvError) (after : List ℕ) → Bytes file → Bytes added
      → UpdatePost form file added before a after
      → ((numbers_of a).number ≡ 15) ↔ ((rs : List ShiftRecord) (r : ShiftRecord) → Grows form file added rs r → ⊥)
  pub update_mismatch : (form : ShiftForm) (file added before : List ℕ) (a : Result Unit YuvError) (after : List ℕ) (rs : List ShiftRecord) (r : ShiftRecord)
      → Grows form file added rs r → Bytes before → UpdatePost form file added before a after
      → ((numbers_of a).number ≡ 17) ↔ ((13 * (length rs + 1) ≤ length before) × HasSummary form rs before → ⊥)
  pub updated : (form : ShiftForm) (file added before : List ℕ) (a : Result Unit YuvError) (after : List ℕ) (rs : List ShiftRecord) (r : ShiftRecord)
      → Grows form file added rs r → Bytes file → Bytes added → UpdatePost form file added before a after → a ≡ Ok tt
      → Left form (rs ++ r ∷ []) (13 * (length rs + 1)) before after
  -- and the file that the writer makes of the old records and the new one is that of the records that it is a summary of
  pub grown : (form : ShiftForm) (file added before : List ℕ) (w : Result ℕ NotWritten) (after : List ℕ) (rs : List ShiftRecord) (r : ShiftRecord)
      → Grows form file added rs r → WritePost form (drop (records_at form (length rs)) file ++ added) before w after → outcome_of w ≡ Ok tt
      → IsFileOf form (take (size_of w) after) (rs ++ r ∷ [])
  -- of which a summary built afresh has the same bytes
  pub afresh : (form : ShiftForm) (file added before : List ℕ) (a : Result Unit YuvError) (after : List ℕ) (rs : List ShiftRecord) (r : ShiftRecord)
      → Grows form file added rs r → Bytes file → Bytes added → UpdatePost form file added before a after → a ≡ Ok tt
      → (grown before₂ : List ℕ) (b : Result Unit YuvError) (after₂ : List ℕ) → IsFileOf form grown (rs ++ r ∷ []) → BuildPost form grown before₂ b after₂ → b ≡ Ok tt
      → take (13 * (length rs + 1)) after ≡ take (13 * (length rs + 1)) after₂
  -- for who links the library, the same calls in the form that the file has
  pub linked_build : (k : ExportedBuild) (p : BuildKept k) (form : ShiftForm) (rs : List ShiftRecord) → IsFileOf form k.file rs
      → BuildPost form k.file k.summary p.answer k.summary'
  pub linked_check : (k : ExportedCheck) (p : CheckKept k) (form : ShiftForm) (rs : List ShiftRecord) → IsFileOf form k.file rs
      → CheckPost form k.file k.summary p.verdict
  pub linked_find : (k : ExportedFind) (p : FindKept k) (form : ShiftForm) (rs : List ShiftRecord) → IsFileOf form k.file rs
      → FindPost form k.file k.summary k.crossing p.finding
  pub linked_update : (k : ExportedUpdate) (p : UpdateKept k) (form : ShiftForm) (rs : List ShiftRecord) → IsFileOf form k.file rs
      → UpdatePost form k.file k.added k.summary p.answer k.summary'

-- ---- Two shift files paired: the report is that of their records, and 15 says which of the two is no file. Two records count as equal exactly where
-- sizes, samplings and planes are; a record has one pair or none, and both pair counts and a file's own leftovers are that file's count; the pair
-- that is told is the first that differs, and the place is that of the first byte. In both forms, also one of each.

-- RULES 13.1, 13.2, 13.3, 13.4, 10.7
pub record ShiftPairs : Type 0 where
  -- of the definitions
  pub same_is_equal : SameIsEqual
  pub place_is_first : PlaceIsFirst
  pub sizes_are_told : SizesAreTold
  pub one_or_none : OneOrNone
  pub counts_add_up : CountsAddUp
  pub first_or_none : FirstOrNone
  -- of the call: 15 exactly where no list of records has the bytes of the one or of the other, and ours, else theirs, is told
  pub refused : (our_form : ShiftForm) (ours : List ℕ) (their_form : ShiftForm) (theirs : List ℕ) (r : Result PairReport BrokenFile) → Bytes ours → Bytes theirs
      → PairingPost our_form ours their_form theirs r → ((numbers_of (pairing_outcome r)).number ≡ 15) ↔ (NoFile our_form ours ⊎ NoFile their_form theirs)
  pub ours_broken : (our_form : ShiftForm) (ours : List ℕ) (their_form : ShiftForm) (theirs : List ℕ) (r : Result PairReport BrokenFile) → Bytes ours
      → PairingPost our_form ours their_form theirs r → (r ≡ Err Ours) ↔ NoFile our_form ours
  pub theirs_broken : (our_form : ShiftForm) (ours : List ℕ) (their_form : ShiftForm) (theirs : List ℕ) (r : Result PairReport BrokenFile) → Bytes ours → Bytes theirs
      → PairingPost our_form ours their_form theirs r → (r ≡ Err Theirs) ↔ (((rs : List ShiftRecord) × IsFileOf our_form ours rs) × NoFile their_form theirs)
  pub reported : (our_form : ShiftForm) (ours : List ℕ) (their_form : ShiftForm) (theirs : List ℕ) (r : Result PairReport BrokenFile) (rs ss : List ShiftRecord)
      → IsFileOf our_form ours rs → IsFileOf their_form theirs ss → PairingPost our_form ours their_form theirs r
      → r ≡ Ok (report_of (record { our_form = our_form; ours = rs; their_form = their_form; theirs = ss }))
  -- for who links the library: the same, and then the report is as it was
  pub linked_refused : (k : ExportedPairing) → Bytes k.ours → Bytes k.theirs → PairingKept k
      → (k.number ≡ 15) ↔ (NoFile (form_in k.ours) k.ours ⊎ NoFile (form_in k.theirs) k.theirs)
  pub linked_ours_broken : (k : ExportedPairing) → Bytes k.ours → Bytes k.theirs → PairingKept k
      → ((k.number ≡ 15) × (k.told ≡ 1 ∷ [])) ↔ NoFile (form_in k.ours) k.ours
  pub linked_theirs_broken : (k : ExportedPairing) → Bytes k.ours → Bytes k.theirs → PairingKept k
      → ((k.number ≡ 15) × (k.told ≡ 2 ∷ []))
      ↔ (((rs : List ShiftRecord) × IsFileOf (form_in k.ours) k.ours rs) × NoFile (form_in k.theirs) k.theirs)
  pub linked_untouched : (k : ExportedPairing) → PairingKept k → k.number ≡ 15 → k.report' ≡ k.report
  -- 0, no file told, and the report in its numbers
  pub linked : (our_form their_form : ShiftForm) (k : ExportedPairing) (rs ss : List ShiftRecord) → IsFileOf our_form k.ours rs
      → IsFileOf their_form k.theirs ss → PairingKept k → (k.number ≡ 0) × (k.told ≡ 0 ∷ [])
      × (k.report' ≡ report_numbers (report_of (record { our_form = our_form; ours = rs; their_form = their_form; theirs = ss })))

-- ---- Y4M: bytes are one file at most, 19 is answered exactly where they are none, and what is told is what the header says and where the planes
-- stand. Pictures written are a file that reads back with the same planes; 19 is answered exactly where they are no pictures of allowed sides and
-- sampling, and then 16 exactly where they have no room. A file with pictures written after it, one by one, is the file of all their planes, and a
-- picture made of the planes of a frame call is these planes without padding.

-- RULES 14.4: no file has these bytes
abbrev pub NoY4m : (file : List ℕ) → Type 0
NoY4m file = (f : Y4mFile) → IsY4mOf file f → ⊥

-- RULES 14.5: an entry has the offsets and lengths of picture k's planes, and the parts of the file that it names are these planes
pub record NamesPlanes (file entry : List ℕ) (f : Y4mFile) (k : ℕ) : Type 0 where
  pub place : take 6 entry ≡ entry_of (y4m_offset f k) (picture_of f k)
  pub y : take (get_or entry 1 0) (drop (get_or entry 0 0) file) ≡ (picture_of f k).y
  pub u : take (get_or entry 3 0) (drop (get_or entry 2 0) file) ≡ (picture_of f k).u
  pub v : take (get_or entry 5 0) (drop (get_or entry 4 0) file) ≡ (picture_of f k).v

-- RULES 14.5: everything that is told of a file
pub record Y4mTold (file : List ℕ) (f : Y4mFile) (first : ℕ) (before : List ℕ) (r : Y4mReading) (after : List ℕ) : Type 0 where
  pub width : r.header.width ≡ f.width
  pub height : r.header.height ≡ f.height
  pub sampling : sampling_code r.header.sampling ≡ sampling_code f.sampling
  pub count : r.count ≡ length f.pictures
  pub told : r.told ≡ min (length f.pictures - first) (length before / 6)
  pub planes : (i : ℕ) → i < r.told → NamesPlanes file (drop (6 * i) after) f (first + i)
  pub others : drop (6 * r.told) after ≡ drop (6 * r.told) before

-- RULES 14.6: the code of a sampling, and sides of 1 to 16,384
pub record ShapeAllowed (code w h : ℕ) : Type 0 where
  pub code_is : code < 2
  pub width_least : 1 ≤ w
  pub width_most : w ≤ 16384
  pub height_least : 1 ≤ h
  pub height_most : h ≤ 16384

-- RULES 14.6: pictures of such a shape, whose planes back to back are these bytes
pub record PicturesIn (code w h : ℕ) (bytes : List ℕ) (ps : List Y4mPicture) : Type 0 where
  pub shape : ShapeAllowed code w h
  pub each : EachAllowed (luma_bytes w h) (chroma_bytes (y4m_sampling code) w h) ps
  pub same : planes_of ps ≡ bytes

-- RULES 14.6: these bytes are none such
abbrev pub NoPictures : (code w h : ℕ) → (bytes : List ℕ) → Type 0
NoPictures code w h bytes = (ps : List Y4mPicture) → PicturesIn code w h bytes ps → ⊥

-- RULES 14.6: these bytes are a file of these sides, this sampling and these planes
pub record Y4mOf (code w h : ℕ) (pictures file : List ℕ) (f : Y4mFile) : Type 0 where
  pub is_file_lem : IsY4mOf file f
  pub width : f.width ≡ w
  pub height : f.height ≡ h
  pub sampling : f.sampling ≡ y4m_sampling code
  pub planes : planes_of f.pictures ≡ pictures

-- RULES 14.7: planes in whole rows, of such a shape
pub record WholePicture (f : PictureFrame) (y u v : List ℕ) : Type 0 where
  pub shape : ShapeAllowed f.sampling f.width f.height
  pub y_rows : WholeRows f.width f.height f.y_stride y
  pub u_rows : WholeRows (chroma_width f.width) (picture_rows f) f.u_stride u
  pub v_rows : WholeRows (chroma_width f.width) (picture_rows f) f.v_stride v

-- RULES 14.7: a call that makes a picture, and what came of it
pub record PictureCall : Type 0 where
  pub frame : PictureFrame
  pub y : List ℕ
  pub u : List ℕ
  pub v : List ℕ
  pub output : List ℕ
  pub result : Result ℕ NotWritten
  pub output' : List ℕ

-- RULES 14.7: of these sides and this sampling, and finished
pub record PictureWritten (code w h : ℕ) (k : PictureCall) : Type 0 where
  pub sampling : k.frame.sampling ≡ code
  pub width : k.frame.width ≡ w
  pub height : k.frame.height ≡ h
  pub met : PicturePost k.frame k.y k.u k.v k.output k.result k.output'
  pub finished : outcome_of k.result ≡ Ok tt

-- RULES 14.7
abbrev pub AllWritten : (code w h : ℕ) → List PictureCall → Type 0
AllWritten code w h [] = Unit {0}
AllWritten code w h (k ∷ ks) = PictureWritten code w h k × AllWritten code w h ks

-- RULES 14.7: what calls wrote, one after the other
abbrev pub bytes_written : List PictureCall → List ℕ
bytes_written [] = []
bytes_written (k ∷ ks) = take (size_of k.result) k.output' ++ bytes_written ks

-- RULES 14.7: the planes that they were given, without padding
abbrev pub planes_given : List PictureCall → List ℕ
planes_given [] = []
planes_given (k ∷ ks) = planes_made k.frame k.y k.u k.v ++ planes_given ks

-- RULES 14.7: the frame of a call, with the strides of its planes, as that of a picture
pub record PictureOfFrame (k : FrameCall) (f : PictureFrame) : Type 0 where
  pub sampling : f.sampling ≡ sampling_code k.frame.settings.sampling
  pub width : f.width ≡ k.frame.width
  pub height : f.height ≡ k.frame.height
  pub y_stride : f.y_stride ≡ k.frame.y_stride
  pub u_stride : f.u_stride ≡ k.frame.u_stride
  pub v_stride : f.v_stride ≡ k.frame.v_stride

-- RULES 14.4, 14.5, 14.6, 14.7, 10.8
pub record Y4mFiles : Type 0 where
  -- of the definitions
  pub some_file : SomeFile
  pub one_file : OneFile
  pub read_back : Y4mReadBack
  pub rewritten : Y4mRewritten
  -- the file of no picture of 4 × 2 is YUV4MPEG2 W4 H2 F25:1 Ip C420jpeg and a newline
  pub line : y4m_made 0 4 2 []
      ≡ 89 ∷ 85 ∷ 86 ∷ 52 ∷ 77 ∷ 80 ∷ 69 ∷ 71 ∷ 50 ∷ 32 ∷ 87 ∷ 52 ∷ 32 ∷ 72 ∷ 50 ∷ 32 ∷ 70 ∷ 50 ∷ 53 ∷ 58 ∷ 49 ∷ 32 ∷ 73 ∷ 112 ∷ 32 ∷ 67 ∷ 52 ∷ 50
      ∷ 48 ∷ 106 ∷ 112 ∷ 101 ∷ 103 ∷ 10 ∷ []
  -- one of 1 × 1 in 4:2:2 with the planes 7, 8, 9 is YUV4MPEG2 W1 H1 F25:1 Ip C422, FRAME, each with a newline, and these three bytes
  pub line_422 : y4m_made 1 1 1 (7 ∷ 8 ∷ 9 ∷ [])
      ≡ 89 ∷ 85 ∷ 86 ∷ 52 ∷ 77 ∷ 80 ∷ 69 ∷ 71 ∷ 50 ∷ 32 ∷ 87 ∷ 49 ∷ 32 ∷ 72 ∷ 49 ∷ 32 ∷ 70 ∷ 50 ∷ 53 ∷ 58 ∷ 49 ∷ 32 ∷ 73 ∷ 112 ∷ 32 ∷ 67 ∷ 52 ∷ 50
      ∷ 50 ∷ 10 ∷ 70 ∷ 82 ∷ 65 ∷ 77 ∷ 69 ∷ 10 ∷ 7 ∷ 8 ∷ 9 ∷ []
  -- of reading: 19, and otherwise everything that is told
  pub refused : (file : List ℕ) (first : ℕ) (before : List ℕ) (r : Result Y4mReading YuvError) (after : List ℕ) → Y4mReadPost file first before r after
      → ((numbers_of (y4m_outcome r)).number ≡ 19) ↔ NoY4m file
  pub read : (file : List ℕ) (first : ℕ) (before : List ℕ) (r : Result Y4mReading YuvError) (after : List ℕ) → Y4mReadPost file first before r after
      → (f : Y4mFile) → IsY4mOf file f → (y4m_outcome r ≡ Ok tt) × Y4mTold file f first before (y4m_reading_of r) after
  -- of writing: 19, then 16, which tells the size, and otherwise the file of these planes. No buffer has 2^64 bytes.
  pub write_refused : (code w h : ℕ) (pictures before : List ℕ) (r : Result ℕ NotWritten) (after : List ℕ) → Y4mWritePost code w h pictures before r after
      → ((numbers_of (outcome_of r)).number ≡ 19) ↔ NoPictures code w h pictures
  pub write_short : (code w h : ℕ) (pictures before : List ℕ) (r : Result ℕ NotWritten) (after : List ℕ) → Y4mWritePost code w h pictures before r after
      → (ps : List Y4mPicture) → PicturesIn code w h pictures ps
      → ((numbers_of (outcome_of r)).number ≡ 16) ↔ (length before < length (y4m_made code w h pictures))
  pub write_size : (code w h : ℕ) (pictures before : List ℕ) (r : Result ℕ NotWritten) (after : List ℕ) → Y4mWritePost code w h pictures before r after
      → ((numbers_of (outcome_of r)).number ≡ 16 → size_of r ≡ in_word (length (y4m_made code w h pictures)))
      × ((numbers_of (outcome_of r)).number ≡ 19 → size_of r ≡ 0)
  pub written : (code w h : ℕ) (pictures before : List ℕ) (r : Result ℕ NotWritten) (after : List ℕ) → Y4mWritePost code w h pictures before r after
      → length before < 2 ^ 64 → outcome_of r ≡ Ok tt
      → (take (size_of r) after ≡ y4m_made code w h pictures) × ((f : Y4mFile) × Y4mOf code w h pictures (take (size_of r) after) f)
      × (drop (size_of r) after ≡ drop (size_of r) before)
  -- read back, it tells the sides, the sampling and the planes that were given
  pub written_read : (code w h : ℕ) (pictures before : List ℕ) (r : Result ℕ NotWritten) (after : List ℕ) → Y4mWritePost code w h pictures before r after
      → length before < 2 ^ 64 → outcome_of r ≡ Ok tt
      → (first : ℕ) (before₂ : List ℕ) (r₂ : Result Y4mReading YuvError) (after₂ : List ℕ) → Y4mReadPost (take (size_of r) after) first before₂ r₂ after₂
      → (y4m_outcome r₂ ≡ Ok tt)
      × ((f : Y4mFile) × Y4mOf code w h pictures (take (size_of r) after) f × Y4mTold (take (size_of r) after) f first before₂ (y4m_reading_of r₂) after₂)
  -- of one picture: the same
  pub picture_refused : (f : PictureFrame) (y u v before : List ℕ) (r : Result ℕ NotWritten) (after : List ℕ) → PicturePost f y u v before r after
      → ((numbers_of (outcome_of r)).number ≡ 19) ↔ (WholePicture f y u v → ⊥)
  pub picture_short : (f : PictureFrame) (y u v before : List ℕ) (r : Result ℕ NotWritten) (after : List ℕ) → PicturePost f y u v before r after
      → WholePicture f y u v → ((numbers_of (outcome_of r)).number ≡ 16) ↔ (length before < length (picture_bytes (picture_made f y u v)))
  pub picture_size : (f : PictureFrame) (y u v before : List ℕ) (r : Result ℕ NotWritten) (after : List ℕ) → PicturePost f y u v before r after
      → ((numbers_of (outcome_of r)).number ≡ 16 → size_of r ≡ length (picture_bytes (picture_made f y u v)))
      × ((numbers_of (outcome_of r)).number ≡ 19 → size_of r ≡ 0)
  pub picture_written : (f : PictureFrame) (y u v before : List ℕ) (r : Result ℕ NotWritten) (after : List ℕ) → PicturePost f y u v before r after
      → outcome_of r ≡ Ok tt
      → (take (size_of r) after ≡ picture_bytes (picture_made f y u v)) × (drop (size_of r) after ≡ drop (size_of r) before)
  -- a file, of no picture too, and pictures written after it one by one
  pub one_by_one : (code w h : ℕ) (pictures before : List ℕ) (r : Result ℕ NotWritten) (after : List ℕ) → Y4mWritePost code w h pictures before r after
      → length before < 2 ^ 64 → outcome_of r ≡ Ok tt → (ks : List PictureCall) → AllWritten code w h ks
      → (f : Y4mFile) × Y4mOf code w h (pictures ++ planes_given ks) (take (size_of r) after ++ bytes_written ks) f
  -- of the planes of a frame: a picture is made wherever it has room, and its planes are the frame's without padding
  pub frame_whole : (k : FrameCall) (f : PictureFrame) → FramePost k → k.answer ≡ Ok tt → PictureOfFrame k f
      → WholePicture f k.y' k.u' k.v'
  pub frame : (k : FrameCall) (f : PictureFrame) → FramePost k → k.answer ≡ Ok tt → PictureOfFrame k f
      → let p = picture_made f k.y' k.u' k.v' in PlaneBytes k p.y p.u p.v
  -- for who links the library: the number and what is told say the same
  pub linked_refused : (k : ExportedY4mReading) → Y4mReadingKept k → (k.number ≡ 19) ↔ NoY4m k.file
  pub linked_read : (k : ExportedY4mReading) (p : Y4mReadingKept k) (f : Y4mFile) → IsY4mOf k.file f
      → (k.number ≡ 0) × (k.told ≡ f.width ∷ f.height ∷ sampling_code f.sampling ∷ length f.pictures ∷ (y4m_reading_of p.reading).told ∷ [])
      × Y4mTold k.file f k.first k.entries (y4m_reading_of p.reading) k.entries'
  pub linked_write_refused : (k : ExportedY4mWriting) → Y4mWritingKept k
      → (k.number ≡ 19) ↔ NoPictures (sampling_given k.numbers) (width_given k.numbers) (height_given k.numbers) k.pictures
  pub linked_written : (k : ExportedY4mWriting) (p : Y4mWritingKept k) → k.number ≡ 0
      → (outcome_of p.written ≡ Ok tt) × (k.told ≡ size_of p.written ∷ [])
  pub linked_picture_refused : (k : ExportedY4mPicture) → Y4mPictureKept k
      → (k.number ≡ 19) ↔ (WholePicture (frame_of_picture k.numbers) k.y k.u k.v → ⊥)
  pub linked_picture_written : (k : ExportedY4mPicture) (p : Y4mPictureKept k) → k.number ≡ 0
      → (outcome_of p.written ≡ Ok tt) × (k.told ≡ size_of p.written ∷ [])

-- ---- A convoy: up to 64 frames in one call. 18 is answered, before any frame is begun, exactly where there are more, a part reaches outside its
-- buffer, or plane parts of two frames overlap. Otherwise the effect is that of single calls in order, up to the first that is refused: its place
-- from 0 and its refusal are told, the earlier frames stand as their calls alone leave them, and no other byte is written.

-- RULES 15.2: 18's condition, of the buffers that a call is lent
abbrev pub IsBroken : ConvoyCall → Type 0
IsBroken k = Broken k.convoy (lengths_of k.source k.before.y k.before.u k.before.v)

-- RULES 10.9, 15.4: a single call by the numbers of frame j of a convoy, all sixteen of them given, on that frame's parts of the buffers as they
-- were lent
pub record SingleOf (k : ExportedConvoy) (j : ℕ) (e : ExportedFrame) : Type 0 where
  pub given : 16 * j + 16 ≤ length k.numbers
  pub numbers : e.numbers ≡ numbers_at k.numbers j
  pub custom : e.custom ≡ custom_at k.customs j
  pub source : e.source ≡ part_of (frame_at (as_convoy k).convoy j).source k.source
  pub planes : three_planes e.y e.u e.v ≡ parts_of (frame_at (as_convoy k).convoy j) k.before

-- RULES 15.1, 15.2, 15.3, 15.4, 10.9
pub record Convoys : Type 0 where
  -- of the definitions
  pub tests_are_exact : TestsAreExact
  pub broken_is_exact : BrokenIsExact
  -- 18, exactly where the convoy is broken; then no frame is begun
  pub only_broken : (k : ConvoyCall) → ConvoyPost k → ((numbers_of k.result.answer).number ≡ 18) ↔ IsBroken k
  pub broken_keeps : (k : ConvoyCall) → ConvoyPost k → IsBroken k
      → (numbers_of k.result.answer ≡ numbers 18 0 0) × (k.result.done ≡ 0) × (k.after ≡ k.before)
  -- otherwise single calls in order, which have one outcome; and each frame is as if its call were the only one
  pub in_order : (k : ConvoyCall) → ConvoyPost k → (IsBroken k → ⊥)
      → Run k.source k.convoy k.before k.result.answer k.result.done k.after
  pub one_outcome : OneOutcome
  pub each_alone : (k : ConvoyCall) → ConvoyPost k → (IsBroken k → ⊥) → AsAlone k
  -- of no frame before the place that is told does a condition hold, and of that frame the refusal is the first that does
  pub first_refused : (k : ConvoyCall) → ConvoyPost k → (IsBroken k → ⊥) → 1 ≤ (numbers_of k.result.answer).number
      → (k.result.done < length k.convoy) × Lowest (turn_rules (frame_at k.convoy k.result.done)) (numbers_of k.result.answer)
      × ((j : ℕ) → j < k.result.done → NoneHolds (turn_rules (frame_at k.convoy j)))
  -- where none has one, all are finished; and no frame at all is finished work
  pub accepted : (k : ConvoyCall) → ConvoyPost k → (IsBroken k → ⊥)
      → ((j : ℕ) → j < length k.convoy → NoneHolds (turn_rules (frame_at k.convoy j)))
      → (k.result.answer ≡ Ok tt) × (k.result.done ≡ length k.convoy)
  pub no_frames : (k : ConvoyCall) → ConvoyPost k → length k.convoy ≡ 0
      → (k.result.answer ≡ Ok tt) × (k.result.done ≡ 0) × (k.after ≡ k.before)
  -- for who links the library: the number and what is told are those of such a call
  pub linked : (k : ExportedConvoy) → ConvoyKept k
      → ConvoyPost (as_convoy k) × (numbers_of (as_convoy k).result.answer ≡ numbers_told k.number k.told)
  pub linked_count : (k : ExportedConvoy) → length (as_convoy k).convoy ≡ k.count
  pub linked_frame : (k : ExportedConvoy) (j : ℕ) → j < k.count
      → frame_at (as_convoy k).convoy j ≡ convoy_frame k.numbers k.customs k.parts j
  -- and so for all 64 frames that the numbers have room for, given or not, of which the convoy is the first ones
  pub linked_room : (k : ExportedConvoy) (j : ℕ) → j < 64
      → frame_at (convoy_of 64 k.numbers k.customs k.parts) j ≡ convoy_frame k.numbers k.customs k.parts j
  pub linked_first : (k : ExportedConvoy) → k.count ≤ 64 → take k.count (convoy_of 64 k.numbers k.customs k.parts) ≡ (as_convoy k).convoy
  -- a finished frame has the planes that `segvartin_call_frame` leaves, and the refused one its answer
  pub linked_finished : (k : ExportedConvoy) → ConvoyKept k → (IsBroken (as_convoy k) → ⊥) → (j : ℕ) → j < done_told k.told
      → (e : ExportedFrame) → FrameKept e → SingleOf k j e
      → (e.number ≡ 0) × (three_planes e.y' e.u' e.v' ≡ parts_of (frame_at (as_convoy k).convoy j) k.after)
  pub linked_refused : (k : ExportedConvoy) → ConvoyKept k → (IsBroken (as_convoy k) → ⊥) → 1 ≤ k.number
      → (e : ExportedFrame) → FrameKept e → SingleOf k (done_told k.told) e
      → numbers_told e.number e.told ≡ numbers_told k.number k.told

-- ---- The front desk: 32 cameras share one converter. A waiting camera is served within 32 steps, whatever the others offer; and up to its last row's
-- step a camera's planes are those of its own accepted bands converted alone. Both are about every list of openings, offers and steps, refused ones
-- included, on a desk begun with no frame open and handed on from call to call; the second where planes, carried rows and waiting bands come back as
-- left too. The claims stand, part by part, in desk_lists' specs/DeskLists.antt, Isolation.antt and FromNumbers.antt.

-- RULES 16.2, 16.4, 16.5, 16.6
pub record Desks : Type 0 where
  -- of the definitions: which parts lie inside and which are taken, and whose turn it is
  pub tests_are_exact : DeskTestsAreExact
  pub turn_is_exact : TurnIsExact
  -- a step tells the camera whose turn it is, with its answer, or none; and where it converts no band it writes nothing
  pub steps_are_right : StepsAreRight
  pub fairness : Fairness
  -- the calls of the converter that a camera's steps made are calls of demand 3 on its own bands; so its planes are those of every frame call with
  -- these rows, and every other byte of its parts is as the first of these calls found it
  pub isolation : Isolation
  pub planes : PlanesOfOwnBands
  -- for who links the library: from all zeros on, the calls that it makes are calls of such a desk, which its arrays are
  pub linked : NumbersAreCalls
  pub linked_fairness : NumberedFairness
  pub linked_planes : NumberedPlanes
