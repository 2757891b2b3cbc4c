-- The three demands hold. Each is a consequence of the promises of the calls: the rules stand in order, so the first that holds is the lowest;
-- a call that took no row left its planes as they were; a frame in whole rows passes every rule, and is a band of all rows.
-- Assumes nothing.
use Prim.Native.Nat.{ℕ, ◌≤◌}
use mathlib.Core.Path.{◌≡◌, refl, sym, ap, subst, ◌∙◌}
use mathlib.Core.Bool.{Bool, true, false}
use mathlib.Core.List.{List, [], ◌∷◌}
use native.Mathlib.Omega.{arith}
use lib.Dec.{T}
use lib.Ieee.Bits.{is_true}
use borrow.Author.Tests.{eq-eqb, ne_eqb}
use lib.ListN.{length, take}
use Rattle.yuv_support.specs.Matrix.{accepted as accepted_matrix}
use Rattle.yuv_error.specs.declared.YuvError.{YuvError}
use Rattle.std.specs.Prelude.{Option, None, Result, Ok, Err}
use Rattle.yuv_error.specs.Numbers.{Numbers, numbers_of}
use Rattle.yuv_error.specs.Rules.{Rule, rule, first_numbers, matrix_rules}
use Rattle.yuv_error.specs.Lowest.{Lowest, in_order}
use Rattle.yuv_error.proofs.Numbers.{is_finished}
use Rattle.yuv_error.proofs.Lowest.{first_is_lowest}
use Rattle.sharp_gamma.proofs.Meaning.{linear_means, gamma_means}
use Rattle.definitions.specs.declared.FrameDescription.{FrameDescription}
use Rattle.definitions.proofs.Painted.{painted_same}
use Rattle.yuv_error.specs.Known.{Sized}
use Rattle.definitions.proofs.Planes.{plane_at, plane_to}
use Rattle.definitions.proofs.Finished.{finished_none, finished_last}
use Rattle.yuv_error.specs.Lent.{lengths_of, opening_rules, taken}
use Rattle.yuv_error.proofs.Accepted.{Buffers}
use Rattle.sharp_rgba_to_yuv.specs.FrameCall.{FrameCall, rules_of as frame_rules, FramePost}
use Rattle.sharp_rgba_to_yuv.proofs.Accepted.{call_Accepted, frame_passes}
use Rattle.sharp_rgba_to_yuv.proofs.Post as frame
use Rattle.band_calls.specs.BandCall.{OpenPost, rules_of as band_rules}
use Rattle.band_calls.proofs.Post as band
use Rattle.band_lists.proofs.SameImage.{others_equal}
use Rattle.band_lists.proofs.Demand3 as lists
use Rattle.frame_request.specs.Request.{request_rules, response_numbers, RequestPost}
use Rattle.frame_request.specs.Reply.{refusal_line, reply}
use Rattle.colour_counts.specs.Counts.{count_of}
use Rattle.counts_request.specs.Reply.{range_of, matrix_of, malformed, lines, reply as counts_reply}
use Rattle.frame_calls.specs.Calls.{rules_of_frame, frame_of_opening, rules_of_opening, handed, rules_of_band}
use Rattle.frame_calls.specs.Lists.{done_told, as_bands}
use Rattle.frame_calls.proofs.Lists.{frame_first, frame_writes_nothing, frame_accepted, open_first, open_done, open_accepted}
use Rattle.frame_calls.proofs.Lists.{band_first, band_writes_nothing, all_met, refused_kept, is_refused}
use Rattle.frame_calls.specs.Counts.{rules_of_counts}
use Rattle.frame_calls.proofs.Counts.{counts_first, counts_write_nothing}
use Rattle.shift_reader.specs.Reading.{read_outcome, file_rules}
use Rattle.shift_reader.proofs.Post as reading
use Rattle.shift_writer.specs.Output.{outcome_of}
use Rattle.shift_writer.specs.Writing.{write_rules}
use Rattle.shift_record.specs.Record.{record_rules}
use Rattle.shift_move.specs.Moving.{move_rules}
use Rattle.shift_calls.specs.Shift.{rules_of_reading, rules_of_reading_any, rules_of_writing, rules_of_record, rules_of_move}
use Rattle.shift_pairs.specs.Pairing.{pairing_rules}
use Rattle.shift_calls.specs.Pairs.{rules_of_pairing}
use Rattle.shift_calls.proofs.Pairs.{pairing_first, pairing_writes_nothing}
use Rattle.yuv_error.proofs.Plain.{alone}
use Rattle.shift_calls.proofs.Shift.{unwritten, reading_first, reading_writes_nothing, reading_any_first, reading_any_writes_nothing}
use Rattle.shift_calls.proofs.Shift.{writing_first, writing_writes_nothing, record_first, record_writes_nothing, move_first, move_writes_nothing}
use Rattle.shift_file.specs.declared.ShiftForm.{ShiftForm}
use Rattle.shift_file.specs.declared.ShiftForm.TheVariants.{WithoutSettings, WithSettings}
use Rattle.summary_calls.specs.Calls.{build_rules, outcome, says_yes, find_rules, found_in}
use Rattle.summary_update.specs.Update.{update_rules}
use Rattle.shift_calls.specs.Summary.{as_number, found_count, found_place, rules_of_build, rules_of_check, rules_of_find, rules_of_update}
use Rattle.shift_calls.proofs.Summary.{build_first, build_writes_nothing, check_first, find_first, update_first, update_writes_nothing}
use Rattle.y4m_reader.specs.declared.Y4mReading.{Y4mReading}
use Rattle.y4m_reader.specs.Entry.{entries_of}
use Rattle.y4m_reader.specs.Reading.{y4m_outcome, y4m_reading_of, file_rules as y4m_file_rules, ReadPost as Y4mReadPost}
use Rattle.y4m_writer.specs.Writing.{write_rules as y4m_write_rules}
use Rattle.y4m_picture.specs.Picture.{picture_rules}
use Rattle.y4m_calls.specs.Calls.{y4m_told, rules_of_y4m_reading, rules_of_y4m_writing, rules_of_y4m_picture}
use Rattle.convoy.proofs.Answers.{convoy_Lowest, unwritten as convoy_unwritten}
use Rattle.desk.specs.DeskCall.{open_rules as desk_open_rules, offer_rules}
use Rattle.desk_calls.specs.Calls.{rules_of_desk_open, served_numbers, step_with}
use Rattle.desk_lists.specs.FromNumbers.{as_offering}
use Rattle.frame_calls.specs.Lists.{numbers_told}
use Rattle.demands.proofs.ConvoyTold.{convoy_met, convoy_told}
use Rattle.demands.proofs.DeskTold.{step_Lowest, step_unwritten}
use Rattle.demands.specs.Demands.{as_convoy, Replied, CountsReplied, Demand1, Demand2, Demand3, WholeFrame, FrameBytes}

-- the promise's equation, read as the sentence of RULES 7.1
lowest : (rules : List Rule) {x : Numbers} → in_order 0 rules ≡ true → x ≡ first_numbers rules → Lowest rules x
lowest rules {x} up = (first_is_lowest rules x up).0

-- forward 15, 16; back 15, 20, 16
moves_in_order : (from : ShiftForm) (file : List ℕ) (room : ℕ) → in_order 0 (move_rules from file room) ≡ true
moves_in_order WithoutSettings file room = refl
moves_in_order WithSettings file room = refl

request_writes_nothing : {input output output' : List ℕ} (r : Result ℕ YuvError) → RequestPost input output r output' → 1 ≤ (response_numbers r).number → output' ≡ output
request_writes_nothing (Ok n) p l = absurd (omega arith)
request_writes_nothing (Err e) p l = painted_same p.written

-- a check that is refused says no
says_no : (r : Result Bool YuvError) → 1 ≤ (numbers_of (outcome r)).number → says_yes r ≡ false
says_no (Ok said) l = absurd (omega arith)
says_no (Err e) l = refl

-- and a lookup finds nothing
finds_nothing : (r : Result (Option ℕ) YuvError) → 1 ≤ (numbers_of (outcome r)).number → found_in r ≡ None
finds_nothing (Ok found) l = absurd (omega arith)
finds_nothing (Err e) l = refl

-- reading a Y4M file that is refused has no reading
y4m_refused : {r : Result Y4mReading YuvError} → 1 ≤ (numbers_of (y4m_outcome r)).number → (e : YuvError) × (r ≡ Err e)
y4m_refused {r = Ok reading} l = absurd (omega arith)
y4m_refused {r = Err e} l = (e, refl)

-- leaves the entries as they were
y4m_unread : {file : List ℕ} {first : ℕ} {before after : List ℕ} {r : Result Y4mReading YuvError} {e : YuvError} → Y4mReadPost file first before r after
    → r ≡ Err e → after ≡ before
unfolding entries_of
y4m_unread {r = r} p is = p.entries ∙ rw is

-- and tells 0 five times
y4m_untold : {r : Result Y4mReading YuvError} {e : YuvError} → r ≡ Err e → y4m_told (y4m_reading_of r) ≡ 0 ∷ 0 ∷ 0 ∷ 0 ∷ 0 ∷ []
y4m_untold is = rw is

-- what the first rule that holds says is the only right answer, and `reply` goes by its number
replied : (input bytes : List ℕ) → bytes ≡ reply input → Replied input bytes
unfolding reply
replied input bytes e x right =
    let is = (first_is_lowest (request_rules input) x refl).1 right in
    let n : x.number ≡ (first_numbers (request_rules input)).number = ap (λ (x : Numbers). x.number) is in (
      λ z. e ∙ rw (eq-eqb (first_numbers (request_rules input)).number 0 (sym n ∙ z)),
      λ l. e ∙ rw (ne_eqb (first_numbers (request_rules input)).number 0 (λ z. omega arith), sym n),
    )

counts_replied : (input bytes : List ℕ) → bytes ≡ counts_reply input → CountsReplied input bytes
unfolding counts_reply
counts_replied input bytes e x right = go (malformed input) refl
  where
    is : x ≡ first_numbers (rule 1 (malformed input) 0 0 ∷ [])
    is = (first_is_lowest (rule 1 (malformed input) 0 0 ∷ []) x refl).1 right

    number : (b : Bool) → malformed input ≡ b → x.number ≡ (first_numbers (rule 1 b 0 0 ∷ [])).number
    number b t = ap (λ (y : Numbers). y.number) is ∙ ap (λ (b : Bool). (first_numbers (rule 1 b 0 0 ∷ [])).number) t

    go : (b : Bool) → malformed input ≡ b
        → (x.number ≡ 0 → bytes ≡ lines (count_of (range_of input) (matrix_of input)) 256) × (1 ≤ x.number → bytes ≡ refusal_line x.number)
    go true t = (λ z. absurd (omega (arith, number true t)), λ l. e ∙ rw (t, number true t))
    go false t = (λ z. e ∙ rw t, λ l. absurd (omega (arith, number false t)))

pub demand_1 : Demand1
demand_1 = record {
  frame = λ k p. record {
    lowest = lowest (frame_rules k) refl p.answered;
    writes_nothing = λ l. frame.refused_writes_nothing k (is_refused k.answer l).1 p;
  };
  opening = λ d r p. lowest (opening_rules d) refl p.answered;
  band = λ k p. record {
    lowest = lowest (band_rules k) refl p.answered;
    writes_nothing = λ l. band.refused_writes_nothing {k = k} (λ n. ap (λ (a : Result Unit YuvError). taken a n) (is_refused k.result.answer l).1) p;
  };
  counts = λ range matrix before a after p. record {
    lowest = lowest (matrix_rules matrix) refl p.answered;
    writes_nothing = λ l. painted_same (rw (is_refused a l).1 at p.counts);
  };
  shift_reading = λ kind form file first before r after p. record {
    lowest = lowest (file_rules form file) refl p.answered;
    writes_nothing = λ l. reading.refused_writes_nothing (reading.read_refused (is_refused (read_outcome r) l).1) p;
  };
  shift_writing = λ form records before r after p. record {
    lowest = lowest (write_rules form records (length before)) refl p.answered;
    writes_nothing = λ l. unwritten (outcome_of r) _ l p.written;
  };
  shift_record = λ f y u v before r after p. record {
    lowest = lowest (record_rules f y u v (length before)) refl p.answered;
    writes_nothing = λ l. unwritten (outcome_of r) _ l p.written;
  };
  shift_moving = λ from file before r after p. record {
    lowest = lowest (move_rules from file (length before)) (moves_in_order from file (length before)) p.answered;
    writes_nothing = λ l. unwritten (outcome_of r) _ l p.written;
  };
  summary_build = λ form file before a after p. record {
    lowest = lowest (build_rules form file (length before)) refl p.answered;
    writes_nothing = λ l. unwritten a _ l p.written;
  };
  summary_check = λ form file summary r p. (lowest (file_rules form file) refl p.answered, says_no r);
  summary_find = λ form file summary crossing r p.
      (lowest (find_rules form file summary) refl p.answered, finds_nothing r);
  summary_update = λ form file added before a after p. record {
    lowest = lowest (update_rules form file added before) refl p.answered;
    writes_nothing = λ l. unwritten a _ l p.written;
  };
  reply = λ input output n output' p. replied input (take n output') p.written;
  counts_reply_lem = λ input output n output' p. counts_replied input (take n output') p.written;
  shift_pairing = λ our_form ours their_form theirs r p. lowest (pairing_rules our_form ours their_form theirs) refl p.answered;
  y4m_reading = λ file first before r after p. record {
    lowest = lowest (y4m_file_rules file) refl p.answered;
    writes_nothing = λ l. y4m_unread p (y4m_refused l).1;
  };
  y4m_writing = λ code w h pictures before r after p. record {
    lowest = lowest (y4m_write_rules code w h pictures (length before)) refl p.answered;
    writes_nothing = λ l. unwritten (outcome_of r) _ l p.written;
  };
  y4m_picture = λ f y u v before r after p. record {
    lowest = lowest (picture_rules f y u v (length before)) refl p.answered;
    writes_nothing = λ l. unwritten (outcome_of r) _ l p.written;
  };
  convoy = λ k p. record { lowest = convoy_Lowest k p; writes_nothing = λ l. convoy_unwritten k p };
  request = λ input output r output' p. record { lowest = lowest (request_rules input) refl p.answered; writes_nothing = request_writes_nothing r p };
  linked_frame = λ k p. record { lowest = lowest (rules_of_frame k) refl (frame_first p); writes_nothing = frame_writes_nothing p };
  linked_opening = λ k p. (lowest (rules_of_opening k) refl (open_first p), open_done p);
  linked_band = λ k p. record { lowest = lowest (rules_of_band k) refl (band_first p); writes_nothing = band_writes_nothing p };
  linked_counts = λ k p. record { lowest = lowest (rules_of_counts k) refl (counts_first p); writes_nothing = counts_write_nothing p };
  linked_shift_reading = λ k p. record { lowest = lowest (rules_of_reading k) refl (reading_first p); writes_nothing = reading_writes_nothing p };
  linked_shift_reading_any = λ k p. record { lowest = lowest (rules_of_reading_any k) refl (reading_any_first p); writes_nothing = reading_any_writes_nothing p };
  linked_shift_writing = λ form k p. record { lowest = lowest (rules_of_writing form k) refl (writing_first p); writes_nothing = writing_writes_nothing p };
  linked_shift_moving = λ from k p. record {
    lowest = lowest (rules_of_move from k) (moves_in_order from k.file (length k.output)) (move_first p);
    writes_nothing = move_writes_nothing p;
  };
  linked_shift_pairing = λ k p. record { lowest = lowest (rules_of_pairing k) refl (pairing_first p); writes_nothing = pairing_writes_nothing p };
  linked_shift_record = λ form k p. record { lowest = lowest (rules_of_record form k) refl (record_first p); writes_nothing = record_writes_nothing p };
  linked_summary_build = λ k p. record { lowest = lowest (rules_of_build k) refl (build_first p); writes_nothing = build_writes_nothing p };
  linked_summary_check = λ k p. (
    lowest (rules_of_check k) refl (check_first p),
    λ l. p.told ∙ ap (λ (b : Bool). as_number b ∷ []) (says_no p.verdict (rw p.number at l)),
  );
  linked_summary_find = λ k p. (
    lowest (rules_of_find k) refl (find_first p),
    λ l. p.told ∙ ap (λ (f : Option ℕ). found_count f ∷ found_place f ∷ []) (finds_nothing p.finding (rw p.number at l)),
  );
  linked_summary_update = λ k p. record { lowest = lowest (rules_of_update k) refl (update_first p); writes_nothing = update_writes_nothing p };
  linked_y4m_reading = λ k p. record {
    lowest = lowest (rules_of_y4m_reading k) refl (alone (rules_of_y4m_reading k) (y4m_outcome p.reading) (refl, tt) p.number p.read.answered);
    writes_nothing = λ l.
        let no = (y4m_refused (rw p.number at l)).1 in
        (y4m_unread p.read no, p.told ∙ y4m_untold no);
  };
  linked_y4m_writing = λ k p. record {
    lowest = lowest (rules_of_y4m_writing k) refl (alone (rules_of_y4m_writing k) (outcome_of p.written) (refl, (refl, tt)) p.number p.wrote.answered);
    writes_nothing = λ l. unwritten (outcome_of p.written) _ (rw p.number at l) p.wrote.written;
  };
  linked_y4m_picture = λ k p. record {
    lowest = lowest (rules_of_y4m_picture k) refl (alone (rules_of_y4m_picture k) (outcome_of p.written) (refl, (refl, tt)) p.number p.wrote.answered);
    writes_nothing = λ l. unwritten (outcome_of p.written) _ (rw p.number at l) p.wrote.written;
  };
  linked_convoy = λ k p. record {
    lowest = rw (convoy_told k p) at (convoy_Lowest (as_convoy k) (convoy_met k p));
    writes_nothing = λ l. convoy_unwritten (as_convoy k) (convoy_met k p);
  };
  desk_opening = λ k p. record {
    lowest = lowest (desk_open_rules k) refl p.answered;
    writes_nothing = λ l. rw (is_refused k.result.answer l).1 at p.desk;
  };
  desk_offer = λ k p. record {
    lowest = lowest (offer_rules k) refl p.answered;
    writes_nothing = λ l. rw (is_refused k.result.answer l).1 at p.desk;
  };
  desk_step = λ k p. record { lowest = step_Lowest k p; writes_nothing = step_unwritten k p };
  linked_desk_opening = λ k p.
      let told : numbers_told k.number k.told ≡ numbers_of p.result.answer = rw (p.number, p.told) in
      record {
        lowest = lowest (rules_of_desk_open k) refl (told ∙ p.opened.answered);
        writes_nothing = λ l. rw (is_refused p.result.answer (rw p.number at l)).1 at p.after;
      };
  linked_desk_offer = λ k p. record {
    lowest = lowest (offer_rules (as_offering k)) refl
        (alone (offer_rules (as_offering k)) p.result.answer (refl, (refl, (refl, (refl, tt)))) p.number p.offered.answered);
    writes_nothing = λ l. rw (is_refused p.result.answer (rw p.number at l)).1 at p.after;
  };
  linked_desk_step = λ k p.
      let told : numbers_told k.number k.told ≡ served_numbers p.result.served = rw (p.number, p.told) in
      record {
        lowest = rw (← told) at (step_Lowest (step_with k p.result) p.stepped);
        writes_nothing = λ l. step_unwritten (step_with k p.result) p.stepped (rw p.number at l);
      };
}

module _ (k : FrameCall) where
  abbrev d : FrameDescription
  d = k.frame

  sized : WholeFrame k → Sized d
  sized w = record {
    width_least = w.width_least;
    width_most = w.width_most;
    height_least = w.height_least;
    height_most = w.height_most;
    source_width_most = w.source_width_most;
    source_height_most = w.source_height_most;
    matrix = subst T (sym w.matrix) tt;
    right = w.right;
    bottom = w.bottom;
  }

  lent : WholeFrame k → Buffers d d.window.source_height k.stride (lengths_of k.source k.y k.u k.v)
  lent w = record {
    source_row = w.source_rows.row;
    source_size = w.source_rows.size;
    planes = record {
      y_row = w.y_rows.row;
      y_size = w.y_rows.size;
      u_row = w.u_rows.row;
      u_size = w.u_rows.size;
      v_row = w.v_rows.row;
      v_size = w.v_rows.size;
    };
  }

  module _ (p : FramePost k) where
    finishes : WholeFrame k → k.answer ≡ Ok tt
    finishes w = is_finished k.answer (ap (λ (x : Numbers). x.number) (p.answered ∙ frame_passes (sized w) (lent w)))

    pub whole : k.answer ≡ Ok tt → WholeFrame k
    whole is =
        let a = call_Accepted k is p in
        let o = a.lent in
        record {
          width_least = o.sized.width_least;
          width_most = o.sized.width_most;
          height_least = o.sized.height_least;
          height_most = o.sized.height_most;
          source_width_most = o.sized.source_width_most;
          source_height_most = o.sized.source_height_most;
          matrix = is_true (accepted_matrix d.settings.matrix) o.sized.matrix;
          right = o.sized.right;
          bottom = o.sized.bottom;
          source_rows = record { row = o.given.source_row; size = a.whole };
          y_rows = record { row = o.planes.y_row; size = o.planes.y_size };
          u_rows = record { row = o.planes.u_row; size = o.planes.u_size };
          v_rows = record { row = o.planes.v_row; size = o.planes.v_size };
        }

    pub bytes : WholeFrame k → FrameBytes k
    bytes w =
        let x = rw (finishes w) at p.planes in
        let start = finished_none d w.height_least in
        let end = finished_last d in
        record {
          luma = λ r i l m. plane_at _ _ _ _ _ _ _ w.y_rows.row x.luma r i (omega arith) l m;
          cb = λ r i l m. plane_at _ _ _ _ _ _ _ w.u_rows.row x.cb r i (omega arith) (omega arith) m;
          cr = λ r i l m. plane_at _ _ _ _ _ _ _ w.v_rows.row x.cr r i (omega arith) (omega arith) m;
          y_padding = others_equal refl x.luma;
          u_padding = others_equal start (plane_to end x.cb);
          v_padding = others_equal start (plane_to end x.cr);
        }

pub demand_2 : Demand2
demand_2 = record {
  finished = λ k p. (whole k p, finishes k p);
  planes = λ k p. bytes k p;
  linear = linear_means;
  gamma = gamma_means;
}

pub demand_3 : Demand3
demand_3 = record {
  calls = lists.demand_3;
  linked = λ o bands p z kept chained.
      let d = frame_of_opening o in
      let opened : OpenPost d (handed d (Ok tt) (done_told o.told)) = rw (open_done p) (open_accepted p z) in (
        (lists.demand_3 d (handed d (Ok tt) (done_told o.told)) (as_bands bands) (record { met = opened; accepted = refl }) (all_met bands kept) chained).0,
        refused_kept bands kept,
      );
  linked_frames = λ k p z. frame_accepted p z;
}
