-- The line of a packet with messages, in the parts that are written.
use Rattle.std.proofs.Common.{◌≡◌, ℕ, ◌++◌, List, [], ◌∷◌, codes}
use Rattle.rasta_show.specs.Lines.{ShownPacket, codes_line, front_words, messages_text}
use Rattle.rasta_line.specs.Texts.{words_before}
use Rattle.rasta_show.specs.Shown.{data_front, data_line}
use Rattle.rasta_line.proofs.Sending.{words_before-append}
use Rattle.rasta_pdu.specs.Pdu.{messages_in}

-- the messages, and what follows them
abbrev pub data_rest : ShownPacket → List ℕ
data_rest q = messages_text (messages_in q.pdu.safety.body) ++ (32 ∷ codes_line q.code q.pdu.check_bytes)

pub data_line-parts : (place : ℕ) (q : ShownPacket) (front : List ℕ) → front ≡ data_front place q
    → data_line place q ≡ front ++ data_rest q
data_line-parts place q front e = rw e (words_before-append (front_words place q) (words_before (codes "data" ∷ []) []) (data_rest q))
