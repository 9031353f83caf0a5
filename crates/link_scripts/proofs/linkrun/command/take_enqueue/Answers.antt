use Rattle.link_scripts.proofs.Common.{number_word, IsNumberInRange}
use Rattle.link_scripts.proofs.Columns.{takes_both, takes_one, takes_none, word_then, AreIn, length_words, AreLengthIn}
use Rattle.link_scripts.proofs.Columns.{latency_words, IsLatencyIn, flag_words, IsFlag, takes_enqueue}
use Rattle.link_scripts.proofs.linkrun.command.take_enqueue.Goals as goal

pub returns-in_err-number-3 : goal.returns-in_err-number-3
returns-in_err-number-3 c =
    rw c.from_residual-in_err-number-3.ensures (takes_enqueue _
    (takes_one c.in_ok-number.ensures (takes_one c.in_ok-number-2.ensures
    (takes_none (word_then number_word length_words) (AreIn IsNumberInRange AreLengthIn) c.in_err-number-3.ensures))))

pub returns-in_err-number-4 : goal.returns-in_err-number-4
returns-in_err-number-4 c =
    rw c.from_residual-in_err-number-4.ensures (takes_enqueue _
    (takes_one c.in_ok-number.ensures (takes_one c.in_ok-number-2.ensures (takes_one c.in_ok-number-3.ensures
    (takes_none length_words AreLengthIn c.in_err-number-4.ensures)))))

pub returns-in_err-length : goal.returns-in_err-length
returns-in_err-length c =
    rw c.from_residual-in_err-length.ensures (takes_enqueue _
    (takes_one c.in_ok-number.ensures (takes_one c.in_ok-number-2.ensures (takes_one c.in_ok-number-3.ensures
    (takes_one c.in_ok-number-4.ensures (takes_none latency_words IsLatencyIn c.in_err-length.ensures))))))

pub returns-in_err-number-5 : goal.returns-in_err-number-5
returns-in_err-number-5 c =
    rw c.from_residual-in_err-number-5.ensures (takes_enqueue _
    (takes_one c.in_ok-number.ensures (takes_one c.in_ok-number-2.ensures (takes_one c.in_ok-number-3.ensures
    (takes_one c.in_ok-number-4.ensures (takes_one c.in_ok-length.ensures
    (takes_none flag_words IsFlag c.in_err-number-5.ensures)))))))

pub returns : goal.returns
returns c =
    takes_enqueue _
    (takes_both c.in_ok-number.ensures (takes_both c.in_ok-number-2.ensures (takes_both c.in_ok-number-3.ensures
    (takes_both c.in_ok-number-4.ensures (takes_both c.in_ok-length.ensures
    (takes_both c.in_ok-number-5.ensures c.in_ok-flag.ensures))))))
