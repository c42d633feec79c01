-- What was read of a capture and written of its text, while a reading goes on and where it ends.
use Rattle.std.proofs.Common.{◌≡◌, ◌∙◌, ℕ, suc, zero, ◌+◌, ◌-◌, ◌<◌, ◌++◌, append_assoc, List, [], Option, Result, Ok, Err, IfOk, true, false, refl, ap, subst, sym}
use Rattle.std.specs.Io.KnownBytes.{Appends, Consumes}
use Rattle.std.proofs.KnownBytes.{Appends-nil, Appends-trans, Consumes-nil, Consumes-trans}
use Rattle.rasta_pcap.specs.declared.fault.Fault.{Fault}
use Rattle.rasta_pcap.specs.declared.pcap.Endianness.{Endianness}
use Rattle.rasta_pcap.specs.declared.stream.RecordReader.{RecordReader}
use Rattle.rasta_pcap.specs.Capture.{Numbered, cursor_at, reading}
use Rattle.rasta_pcap.specs.Devices.{AppendsBeginning, Writes}
use Rattle.rasta_pcap.specs.Stream.{MeetsEnd, Opens, ReadsJust, ReadsRecord, ReadsSo, RefusesHeader, RefusesRecord, count_in, order_in}
use Rattle.rasta_pcap.proofs.Streams.{reading-ReadsRecord, reading-RefusesRecord, reading-at_end, reading_of-Opens, reading_of-RefusesHeader}
use Rattle.rasta_pdu.specs.Params.{Parameters}
use Rattle.rasta_show.specs.Lines.{ShownPacket, packet_line}
use Rattle.rasta_show.specs.Show.{Shown, Sight, packet, passed_over, refused, shown, shown_of, sight_of, status_after, text_from, with_sight}
use Rattle.rasta_line.specs.Runs.{WritesBeginning, WritesText}
use Rattle.rasta_show.specs.Shown.{shown_left}
use Rattle.rasta_show.proofs.Showing.{left-after, nothing, refusal, shown-none_left, shown-nothing, shown-record, shown-refusal, text_from-packet}

-- the text and the status of what bytes show
abbrev pub text_by : (List ℕ → Shown) → List ℕ → List ℕ
text_by whole file = text_from 0 (whole file)

abbrev pub status_by : (List ℕ → Shown) → List ℕ → ℕ
status_by whole file = status_after (whole file).fault

-- bytes were read and lines written: for every input that begins so, what it shows is what was written, and then the text of
-- what the rest shows, whose packets begin at this place
pub record Streams (whole rest : List ℕ → Shown) (place : ℕ) (old_input new_input old_output new_output : Option (List ℕ)) : Type 0 where
  pub input : List ℕ
  pub consumed : Consumes old_input new_input input
  pub output : List ℕ
  pub appended : Appends old_output new_output output
  pub text : (more : List ℕ) → text_by whole (input ++ more) ≡ output ++ text_from place (rest more)
  pub status : (more : List ℕ) → status_by whole (input ++ more) ≡ status_by rest more

pub Streams-start : (whole : List ℕ → Shown) (i o : Option (List ℕ)) → Streams whole whole 0 i i o o
Streams-start whole i o = record {
  input = [];
  consumed = Consumes-nil i;
  output = [];
  appended = Appends-nil o;
  text = λ more. refl;
  status = λ more. refl;
}

-- one record was read, which is seen so, and then the next bytes follow
abbrev pub Sees : (List ℕ → Shown) → Sight → (List ℕ → Shown) → Option (List ℕ) → Option (List ℕ) → Type 0
Sees rest s next old new = ReadsJust (λ bytes after. rest bytes ≡ with_sight s (next after)) old new

-- ---- the reading goes on

pub Streams-passed : (whole rest next : List ℕ → Shown) (place : ℕ) (oi mi fi oo fo : Option (List ℕ)) → Streams whole rest place oi mi oo fo
    → Sees rest passed_over next mi fi → Streams whole next place oi fi oo fo
Streams-passed whole rest next place oi mi fi oo fo h seen = record {
  input = h.input ++ seen.bytes;
  consumed = Consumes-trans oi mi fi h.input seen.bytes h.consumed seen.consumed;
  output = h.output;
  appended = h.appended;
  text = λ more. ap (text_by whole) (append_assoc h.input seen.bytes more) ∙ h.text (seen.bytes ++ more)
      ∙ ap (λ s. h.output ++ text_from place s) (seen.each more);
  status = λ more. ap (status_by whole) (append_assoc h.input seen.bytes more) ∙ h.status (seen.bytes ++ more)
      ∙ ap (λ (s : Shown). status_after s.fault) (seen.each more);
}

pub Streams-packet : (whole rest next : List ℕ → Shown) (place : ℕ) (q : ShownPacket) (oi mi fi oo mo fo : Option (List ℕ))
    → Streams whole rest place oi mi oo mo → Sees rest (packet q) next mi fi → Appends mo fo (packet_line place q)
    → Streams whole next (place + 1) oi fi oo fo
Streams-packet whole rest next place q oi mi fi oo mo fo h seen out =
    let line = packet_line place q in record {
      input = h.input ++ seen.bytes;
      consumed = Consumes-trans oi mi fi h.input seen.bytes h.consumed seen.consumed;
      output = h.output ++ line;
      appended = Appends-trans oo mo fo h.output line h.appended out;
      text = λ more. ap (text_by whole) (append_assoc h.input seen.bytes more) ∙ h.text (seen.bytes ++ more)
          ∙ ap (λ s. h.output ++ text_from place s) (seen.each more)
          ∙ ap (λ (l : List ℕ). h.output ++ l) (text_from-packet place q (next more))
          ∙ sym (append_assoc h.output line (text_from (place + 1) (next more)));
      status = λ more. ap (status_by whole) (append_assoc h.input seen.bytes more) ∙ h.status (seen.bytes ++ more)
          ∙ ap (λ (s : Shown). status_after s.fault) (seen.each more);
    }

-- ---- the reading ends

-- the last line went out
pub Streams-ends : (whole rest : List ℕ → Shown) (place : ℕ) (s : Shown) (line : List ℕ) (oi mi fi oo mo fo : Option (List ℕ))
    → Streams whole rest place oi mi oo mo → ReadsSo (λ bytes. rest bytes ≡ s) mi fi → text_from place s ≡ line → Appends mo fo line
    → WritesText (text_by whole) (status_by whole) (status_after s.fault) oi fi oo fo
Streams-ends whole rest place s line oi mi fi oo mo fo h e is out = record {
  input = h.input ++ e.bytes;
  met_end = e.met_end;
  consumed = Consumes-trans oi mi fi h.input e.bytes h.consumed e.consumed;
  at_end = e.at_end;
  output = h.output ++ line;
  appended = Appends-trans oo mo fo h.output line h.appended out;
  holds = λ more follows. (
    sym (ap (text_by whole) (append_assoc h.input e.bytes more) ∙ h.text (e.bytes ++ more)
        ∙ ap (λ t. h.output ++ text_from place t) (e.each more follows) ∙ ap (λ (l : List ℕ). h.output ++ l) is),
    sym (ap (status_by whole) (append_assoc h.input e.bytes more) ∙ h.status (e.bytes ++ more)
        ∙ ap (λ (t : Shown). status_after t.fault) (e.each more follows)),
  );
}

-- the last line begun
pub Streams-ends_begun : (whole rest : List ℕ → Shown) (place : ℕ) (s : Shown) (line : List ℕ) (oi mi fi oo mo fo : Option (List ℕ))
    → Streams whole rest place oi mi oo mo → ReadsSo (λ bytes. rest bytes ≡ s) mi fi → text_from place s ≡ line → AppendsBeginning mo fo line
    → WritesBeginning (text_by whole) oi fi oo fo
Streams-ends_begun whole rest place s line oi mi fi oo mo fo h e is begun = record {
  input = h.input ++ e.bytes;
  met_end = e.met_end;
  consumed = Consumes-trans oi mi fi h.input e.bytes h.consumed e.consumed;
  at_end = e.at_end;
  output = h.output ++ begun.0;
  appended = Appends-trans oo mo fo h.output begun.0 h.appended begun.2;
  holds = λ more follows. (
    begun.1,
    ap (text_by whole) (append_assoc h.input e.bytes more) ∙ h.text (e.bytes ++ more)
        ∙ ap (λ t. h.output ++ text_from place t) (e.each more follows) ∙ ap (λ (l : List ℕ). h.output ++ l) (is ∙ begun.3)
        ∙ sym (append_assoc h.output begun.0 begun.1),
  );
}

-- a packet's line begun
pub Streams-packet_begun : (whole rest next : List ℕ → Shown) (place : ℕ) (q : ShownPacket) (oi mi fi oo mo fo : Option (List ℕ))
    → Streams whole rest place oi mi oo mo → Sees rest (packet q) next mi fi → AppendsBeginning mo fo (packet_line place q)
    → WritesBeginning (text_by whole) oi fi oo fo
Streams-packet_begun whole rest next place q oi mi fi oo mo fo h seen begun = record {
  input = h.input ++ seen.bytes;
  met_end = false;
  consumed = Consumes-trans oi mi fi h.input seen.bytes h.consumed seen.consumed;
  at_end = λ h. absurd (cc);
  output = h.output ++ begun.0;
  appended = Appends-trans oo mo fo h.output begun.0 h.appended begun.2;
  holds = λ more follows.
      let after = text_from (place + 1) (next more) in (
        begun.1 ++ after,
        ap (text_by whole) (append_assoc h.input seen.bytes more) ∙ h.text (seen.bytes ++ more)
            ∙ ap (λ s. h.output ++ text_from place s) (seen.each more)
            ∙ ap (λ (l : List ℕ). h.output ++ l) (text_from-packet place q (next more) ∙ ap (λ (l : List ℕ). l ++ after) begun.3
            ∙ append_assoc begun.0 begun.1 after)
            ∙ sym (append_assoc h.output begun.0 (begun.1 ++ after)),
      );
}

-- the reading broke off
pub Streams-broken : (whole rest : List ℕ → Shown) (place : ℕ) (bytes : List ℕ) (oi mi fi oo fo : Option (List ℕ))
    → Streams whole rest place oi mi oo fo → Consumes mi fi bytes → WritesBeginning (text_by whole) oi fi oo fo
Streams-broken whole rest place bytes oi mi fi oo fo h consumed = record {
  input = h.input ++ bytes;
  met_end = false;
  consumed = Consumes-trans oi mi fi h.input bytes h.consumed consumed;
  at_end = λ h. absurd (cc);
  output = h.output;
  appended = h.appended;
  holds = λ more follows. (
    text_from place (rest (bytes ++ more)),
    ap (text_by whole) (append_assoc h.input bytes more) ∙ h.text (bytes ++ more),
  );
}

-- ---- what a reader's answer says of what is left

-- what the bytes show that are left of a file, at most so many records
abbrev pub left_shown : Parameters → ℕ → Endianness → ℕ → List ℕ → Shown
left_shown p left order count bytes = shown_of p (reading left (cursor_at order bytes count))

pub sees_record : (p : Parameters) (left : ℕ) (order : Endianness) (count : ℕ) (r : Numbered) (s : Sight) (old new : Option (List ℕ))
    → ReadsRecord order count r old new → s ≡ sight_of p r
    → Sees (left_shown p (suc left) order count) s (left_shown p left order r.0) old new
sees_record p left order count r s old new h e = record {
  bytes = h.bytes;
  consumed = h.consumed;
  each = λ more.
      let after = reading left (cursor_at order more r.0) in
      ap (shown_of p) (reading-ReadsRecord left order count r old new h more) ∙ shown-record p r after
      ∙ ap (λ t. with_sight t (shown_of p after)) (sym e);
}

-- a record is left where not all were counted
pub Streams-left : (whole : List ℕ → Shown) (p : Parameters) (order : Endianness) (count place end counter : ℕ) (oi mi oo mo : Option (List ℕ))
    → counter < end → Streams whole (left_shown p (end - counter) order count) place oi mi oo mo
    → Streams whole (left_shown p (suc (end - (counter + 1))) order count) place oi mi oo mo
Streams-left whole p order count place end counter oi mi oo mo below h =
    subst (λ n. Streams whole (left_shown p n order count) place oi mi oo mo) (left-after end counter below) h

-- a record that is refused ends the text
pub ends_refused : (rest next : List ℕ → Shown) (f : Fault) (old new : Option (List ℕ)) → Sees rest (refused f) next old new
    → ReadsSo (λ bytes. rest bytes ≡ refusal f) old new
ends_refused rest next f old new h = record {
  bytes = h.bytes;
  met_end = false;
  consumed = h.consumed;
  at_end = λ h. absurd (cc);
  each = λ more follows. h.each more;
}

pub ends_at_fault : (p : Parameters) (left : ℕ) (order : Endianness) (count : ℕ) (f : Fault) (old new : Option (List ℕ))
    → RefusesRecord order count f old new → ReadsSo (λ bytes. left_shown p (suc left) order count bytes ≡ refusal f) old new
ends_at_fault p left order count f old new h = record {
  bytes = h.bytes;
  met_end = h.met_end;
  consumed = h.consumed;
  at_end = h.at_end;
  each = λ more follows. ap (shown_of p) (reading-RefusesRecord left order count f old new h more follows) ∙ shown-refusal p f;
}

pub ends_at_end : (p : Parameters) (left : ℕ) (order : Endianness) (count : ℕ) (old new : Option (List ℕ))
    → MeetsEnd old new → ReadsSo (λ bytes. left_shown p (suc left) order count bytes ≡ nothing) old new
ends_at_end p left order count old new h = record {
  bytes = [];
  met_end = true;
  consumed = h.0;
  at_end = λ e. h.1;
  each = λ more follows. ap (left_shown p (suc left) order count) (follows refl)
      ∙ ap (shown_of p) (reading-at_end left order count) ∙ shown-nothing p;
}

pub ends_with_window : (p : Parameters) (order : Endianness) (count : ℕ) (i : Option (List ℕ))
    → ReadsSo (λ bytes. left_shown p zero order count bytes ≡ nothing) i i
ends_with_window p order count i = record {
  bytes = [];
  met_end = false;
  consumed = Consumes-nil i;
  at_end = λ h. absurd (cc);
  each = λ more follows. shown-none_left p order more count;
}

-- ---- a whole file

-- what is said of the bytes after a front is said of the file
pub WritesText-after : (text whole : List ℕ → List ℕ) (status answer : List ℕ → ℕ) (answered : ℕ) (front : List ℕ) (oi mi fi oo fo : Option (List ℕ))
    → Consumes oi mi front → ((rest : List ℕ) → whole (front ++ rest) ≡ text rest) → ((rest : List ℕ) → answer (front ++ rest) ≡ status rest)
    → WritesText text status answered mi fi oo fo → WritesText whole answer answered oi fi oo fo
WritesText-after text whole status answer answered front oi mi fi oo fo consumed same same_status h = record {
  input = front ++ h.input;
  met_end = h.met_end;
  consumed = Consumes-trans oi mi fi front h.input consumed h.consumed;
  at_end = h.at_end;
  output = h.output;
  appended = h.appended;
  holds = λ more follows.
      let said = h.holds more follows in (
        said.0 ∙ sym (ap whole (append_assoc front h.input more) ∙ same (h.input ++ more)),
        said.1 ∙ sym (ap answer (append_assoc front h.input more) ∙ same_status (h.input ++ more)),
      );
}

pub WritesBeginning-after : (text whole : List ℕ → List ℕ) (front : List ℕ) (oi mi fi oo fo : Option (List ℕ))
    → Consumes oi mi front → ((rest : List ℕ) → whole (front ++ rest) ≡ text rest)
    → WritesBeginning text mi fi oo fo → WritesBeginning whole oi fi oo fo
WritesBeginning-after text whole front oi mi fi oo fo consumed same h = record {
  input = front ++ h.input;
  met_end = h.met_end;
  consumed = Consumes-trans oi mi fi front h.input consumed h.consumed;
  at_end = h.at_end;
  output = h.output;
  appended = h.appended;
  holds = λ more follows.
      let rest = h.holds more follows in
      (rest.0, ap whole (append_assoc front h.input more) ∙ same (h.input ++ more) ∙ rest.1);
}

-- what a file shows that was opened is what its reader has left
pub opened_shown : (p : Parameters) (r : RecordReader) (old new : Option (List ℕ)) (h : Opens (order_in r) old new) → count_in r ≡ 0 → (rest : List ℕ)
    → shown p (h.bytes ++ rest) ≡ shown_left p r rest
opened_shown p r old new h e rest = ap (shown_of p)
    (reading_of-Opens p.last_record (order_in r) old new h rest ∙ ap (λ n. reading p.last_record (cursor_at (order_in r) rest n)) (sym e))

-- a header that is refused ends the text
pub ends_at_header : (p : Parameters) (f : Fault) (old new : Option (List ℕ)) → RefusesHeader f old new → ReadsSo (λ bytes. shown p bytes ≡ refusal f) old new
ends_at_header p f old new h = record {
  bytes = h.bytes;
  met_end = h.met_end;
  consumed = h.consumed;
  at_end = h.at_end;
  each = λ more follows. ap (shown_of p) (reading_of-RefusesHeader p.last_record f old new h more follows) ∙ shown-refusal p f;
}

-- ---- answers

pub if_ok_map : {A E : Type 0} (P Q : A → Type 0) (r : Result A E) → ((x : A) → P x → Q x) → IfOk r P → IfOk r Q
if_ok_map P Q (Ok x) f h = f x h
if_ok_map P Q (Err e) f h = tt

-- a refusal went out, with status 1
pub refused_answer : (P : ℕ → Type 0) (r : Result ℕ Fault) (old new : Option (List ℕ)) (line : List ℕ) → (Appends old new line → P 1) → Writes r old new line → IfOk r (λ status. status ≡ 1) → IfOk r P
refused_answer P (Ok status) old new line f out is = subst P (sym is) (f out)
refused_answer P (Err e) old new line f out is = tt
